use Rattle.std.proofs.Common.{◌≡◌, ◌++◌, map, take}
use Rattle.just_parser.specs.View.{dependency_view}
use Rattle.just_recipe.specs.Expressions.{dependency_expressions}
use Rattle.just_recipe.specs.Expressions.{part_view}
use Rattle.just_recipe.proofs.expressions.add_dependencies.Given as goal

-- the arguments of the dependencies so far were added
abbrev pub invariant-loop-dependency : goal.invariant-loop-dependency
invariant-loop-dependency l = map part_view l.parts.items
    ≡ map part_view l.initial.parts.items ++ dependency_expressions (map dependency_view (take l.dependency-index l.dependencies))
