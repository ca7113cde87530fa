use Rattle.std.proofs.Common.{◌≡◌, ◌++◌, map, take}
use Rattle.just_meaning.specs.Here.{parameter_expressions}
use Rattle.just_syntax.specs.View.{recipe_parameter_view}
use Rattle.just_recipe.specs.Expressions.{part_view}
use Rattle.just_recipe.proofs.expressions.add_parameters.Given as goal

-- the expressions of the parameters so far were added
abbrev pub invariant-loop-parameter : goal.invariant-loop-parameter
invariant-loop-parameter l = map part_view l.parts.items
    ≡ map part_view l.initial.parts.items ++ parameter_expressions (map recipe_parameter_view (take l.parameter-index l.parameters))
