use Rattle.std.proofs.Common.{◌≡◌, ◌++◌, map, take}
use Rattle.just_recipe.specs.Expressions.{body_expressions}
use Rattle.just_syntax.specs.View.{line_view}
use Rattle.just_recipe.specs.Expressions.{part_view}
use Rattle.just_recipe.proofs.expressions.add_lines.Given as goal

-- the interpolations of the lines so far were added
abbrev pub invariant-loop-line : goal.invariant-loop-line
invariant-loop-line l = map part_view l.parts.items ≡ map part_view l.initial.parts.items ++ body_expressions (map line_view (take l.line-index l.lines))
