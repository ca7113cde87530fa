use Rattle.std.proofs.Common.{[], ap, map, ◌∷◌, ◌∙◌}
use Rattle.std.proofs.lemmas.List.{map-append}
use Rattle.just_resolve.specs.Prelude.{parameter_view}
use Rattle.just_syntax.specs.View.{recipe_parameter_view}
use Rattle.just_recipe.proofs.Numbered.{numbered_next}
use Rattle.just_recipe.proofs.numbered_recipe.add_parameters.Goals as goal

pub loop-parameter-preserved : goal.loop-parameter-preserved
loop-parameter-preserved c =
    numbered_next _ _ c.loop-parameter.invariant
    (ap (map recipe_parameter_view) c.in-Some.ensures.steps.0) (ap (map parameter_view) c.in-Some.ensures.steps.1)
    c.in_ok-copy.ensures
    (ap (map recipe_parameter_view) c.in_ok-push.ensures.ok ∙ map-append recipe_parameter_view c.loop-parameter.copies.items (c.in_ok-copy.copy ∷ []))
    c.in_ok-add_parameter.ensures.parameters c.add_parameter.ensures.variables
