use Rattle.std.proofs.Common.{◌≡◌, ◌+◌, ap, map, drop, option_map}
use Rattle.std.proofs.lemmas.List.{drop_all}
use Rattle.just_faults.specs.Prelude.{BoundParameter, HasValue, IsFaulty, IsSound, ParameterOf, frames_view, module_fault_view, parameter_places}
use Rattle.just_faults.specs.Prelude.{parameter_view, value_in}
use Rattle.just_resolution.proofs.Sets.{front}
use Rattle.just_faults.proofs.Adding.{continues_end, continues_on, seen_found}
use Rattle.just_faults.proofs.numbering.add_bound_parameters.Goals as goal

pub loop-name-preserved : goal.loop-name-preserved
loop-name-preserved c = λ functions assignments.
    let outer = frames_view c.args.scope.now in
    let parameters = c.args.parameters.now in
    let i = c.loop-name.name-index in
    let item = c.loop-name-item.result in
    let p = parameter_view item in
    let fault = c.bound_outside-fault.result in
    continues_on (IsSound functions assignments outer) (IsFaulty functions assignments outer) (parameter_places (map parameter_view (drop i parameters)))
    (parameter_places (map parameter_view (drop (i + 1) parameters))) (parameter_places (map parameter_view parameters))
    (map module_fault_view c.args.all.now.items) (map module_fault_view c.loop-name.all.items) (c.loop-name.invariant functions assignments)
    (ParameterOf p.0 p.1) (option_map module_fault_view fault) (map module_fault_view c.add_some.new.all.items)
    (ap (λ ps. parameter_places (map parameter_view ps)) (front parameters i item c.loop-name-test.true c.loop-name-item.is))
    (seen_found module_fault_view (HasValue (value_in outer) p.1 → ⊥) (λ f. (BoundParameter p.0 ≡ f) × HasValue (value_in outer) p.1) fault
    c.bound_outside-fault.ensures)
    c.in_ok-add_some.ensures

pub returns : goal.returns
returns c = λ functions assignments.
    let outer = frames_view c.args.scope.now in
    let parameters = c.args.parameters.now in
    let i = c.loop-name.name-index in
    continues_end (IsSound functions assignments outer) (IsFaulty functions assignments outer) (parameter_places (map parameter_view (drop i parameters)))
    (parameter_places (map parameter_view parameters)) (map module_fault_view c.args.all.now.items) (map module_fault_view c.loop-name.all.items)
    (ap (λ ps. parameter_places (map parameter_view ps)) (drop_all i parameters c.loop-name-test.false)) (c.loop-name.invariant functions assignments)
