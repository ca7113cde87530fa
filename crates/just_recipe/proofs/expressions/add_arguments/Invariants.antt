use Rattle.std.proofs.Common.{◌≡◌, ◌++◌, map, take}
use Rattle.just_syntax.specs.View.{view}
use Rattle.just_recipe.specs.Expressions.{part_view}
use Rattle.just_recipe.proofs.expressions.add_arguments.Given as goal

-- the arguments so far were added
abbrev pub invariant-loop-argument : goal.invariant-loop-argument
invariant-loop-argument l = map part_view l.parts.items ≡ map part_view l.initial.parts.items ++ map view (take l.argument-index l.dependency.arguments.items)
