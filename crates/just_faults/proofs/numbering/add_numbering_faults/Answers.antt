use Rattle.std.proofs.Common.{◌≡◌, ◌∙◌, ◌++◌, ◌-◌, ℕ, List, [], length, map, take, drop, ap, rules, subst, sym}
use Rattle.std.proofs.lemmas.List.{length-map}
use Rattle.std.proofs.lemmas.Result.{on_ok_weaker}
use Rattle.just_faults.specs.Prelude.{AddsFaults, IsFaulty, IsSound, Token, assignment_view, frames_view, functions_view, module_fault_view, number_places}
use Rattle.just_faults.specs.Prelude.{numbered_assignments, numbered_parameters, parameter_places, parameter_view}
use Rattle.just_syntax.specs.declared.name.Name.{Name}
use Rattle.just_resolution.proofs.Sets.{after}
use Rattle.just_faults.proofs.Adding.{adds_both}
use Rattle.just_faults.proofs.numbering.add_numbering_faults.Goals as goal

pub returns : goal.returns
returns c =
    let parameters = numbered_parameters (functions_view c.args.«module».now) in
    let all = numbered_assignments (map assignment_view c.args.«module».now.assignments) ++ parameters in
    let outer = frames_view c.args.parent.now in
    let gathered : map parameter_view c.deref.result.now ≡ all =
    ap (map parameter_view) c.deref.ensures.value ∙ c.in_ok-add_parameter_numbers.ensures
    ∙ ap (λ (ps : List (Token × ℕ)). ps ++ parameters) c.in_ok-numbers.ensures in
    let first = map parameter_view c.in_ok-numbers.numbers.items in
    let size : c.len-first_parameter.result ≡ length c.in_ok-numbers.numbers.items = search rules in
    let slice : List (Name × ℕ) = take (length c.deref-2.result.now - c.len-first_parameter.result) (drop c.len-first_parameter.result c.deref-2.result.now) in
    let of_parameters : map parameter_view slice ≡ parameters =
    after parameter_view c.deref-2.result.now first parameters c.len-first_parameter.result (ap (map parameter_view) c.deref-2.ensures.value
    ∙ c.in_ok-add_parameter_numbers.ensures) (size ∙ sym (length-map c.in_ok-numbers.numbers.items parameter_view)) in
    let mid = map module_fault_view c.add_duplicates.new.all.items in
    let old = map module_fault_view c.args.all.now.items in
    let new = map module_fault_view c.add_bound_parameters.new.all.items in
    on_ok_weaker c.add_bound_parameters.result
    (λ added functions assignments.
    adds_both (IsSound functions assignments outer) (IsFaulty functions assignments outer) (number_places [] all) (parameter_places parameters) old mid new
    (subst (λ ps. AddsFaults functions assignments outer (number_places [] ps) old mid) gathered (c.in_ok-add_duplicates.ensures functions assignments outer))
    (subst (λ ps. AddsFaults functions assignments outer (parameter_places ps) mid new) of_parameters (added functions assignments)))
    c.add_bound_parameters.ensures
