use Rattle.std.proofs.Common.{is_some, map}
use Rattle.just_resolution.specs.Prelude.{functions_view, module_fault_view}
use Rattle.just_resolution.proofs.Deciding.{all_known_decided, none_answers}
use Rattle.just_resolution.proofs.Resolving.{refuses}
use Rattle.just_resolution.proofs.resolved_here.are_apart_and_known.Goals as goal

pub returns-then-not-branch : goal.returns-then-not-branch
returns-then-not-branch c = refuses c.in_ok-are_parameters_apart.field-0 c.if-not-branch.true c.in_ok-are_parameters_apart.ensures (λ r. r.0)

pub returns : goal.returns
returns c =
    let functions = functions_view c.args.context.now.«module».now in
    let bodies = none_answers (is_some c.in_ok-bodies_fault.field-0) c.is_none.result c.is_none.ensures
    (all_known_decided module_fault_view c.in_ok-bodies_fault.field-0 functions (map (λ f. f.body) functions) c.in_ok-bodies_fault.ensures) in (
      (λ h. (c.in_ok-are_parameters_apart.ensures.0 c.if-not-branch.false, bodies.0 h)),
      (λ r. bodies.1 r.1),
    )
