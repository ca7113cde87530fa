use Rattle.std.proofs.Common.{◌≡◌, true, map}
use Rattle.std.proofs.lemmas.Result.{IfOk-weaker}
use Rattle.just_resolution.specs.Prelude.{attribute_expressions, attributes_of, expressions_view, frames_view, functions_view, is_readable}
use Rattle.just_resolution.specs.Prelude.{recipe_parameter_view, value_in}
use Rattle.just_resolution.proofs.Readers.{bound_alone}
use Rattle.just_resolution.proofs.Turns.{all_here}
use Rattle.just_resolution.proofs.here.are_readable_here.Goals as goal

-- bodies may read what the context's scope binds, and expressions here what the scope binds
pub returns : goal.returns
returns c = IfOk-weaker c.may_occur_and_follow.result _ _
    (λ answer all. all_here (functions_view c.args.context.now.«module».now) (value_in (frames_view c.args.context.now.scope.now))
    (value_in (frames_view c.args.scope.now)) (is_readable c.in_ok-bodies.bodies)
    (bound_alone c.in_ok-bodies.bodies c.args.context.now.scope c.in_ok-bodies.ensures.taken c.in_ok-bodies.ensures.outer)
    (is_readable c.in_ok-here.here) (answer ≡ true)
    (attribute_expressions (attributes_of c.args.recipe)) (expressions_view c.args.expressions.items) (map recipe_parameter_view c.args.parameters.now)
    (bound_alone c.in_ok-here.here c.args.scope c.in_ok-here.ensures.taken c.in_ok-here.ensures.outer) all)
    c.may_occur_and_follow.ensures
