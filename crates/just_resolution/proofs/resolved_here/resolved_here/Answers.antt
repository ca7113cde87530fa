use Rattle.std.proofs.Common.{◌≡◌, true, map}
use Rattle.std.proofs.lemmas.Result.{IfOk-weaker}
use Rattle.just_resolution.specs.Prelude.{assignment_view, attributes_of, expressions_view, frames_view, functions_view, recipe_parameter_view}
use Rattle.just_resolution.proofs.Resolving.{is_resolved_here, refuses}
use Rattle.just_resolution.proofs.resolved_here.resolved_here.Goals as goal

pub returns-then-not-branch : goal.returns-then-not-branch
returns-then-not-branch c =
    record {
      exact = refuses c.in_ok-are_apart_and_known.field-0 c.if-not-branch.true c.in_ok-are_apart_and_known.ensures
          (λ r. ((r.distinct, r.unbound), r.bodies));
    }

pub returns : goal.returns
returns c =
    let module_now = c.args.context.now.«module».now in
    let first = c.in_ok-are_apart_and_known.ensures.0 c.if-not-branch.false in
    record {
      exact = IfOk-weaker c.are_readable_here.result _ _
          (λ answer. is_resolved_here (functions_view module_now) (map assignment_view module_now.assignments) (frames_view c.args.context.now.scope.now)
          (frames_view c.args.scope.now) (attributes_of c.args.recipe)
          (map recipe_parameter_view c.args.parameters.now) (expressions_view c.args.expressions.items) (answer ≡ true) first.0.0 first.0.1 first.1)
          c.are_readable_here.ensures;
    }
