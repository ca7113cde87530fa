use Rattle.std.proofs.Common.{◌≡◌, ◌++◌, drop, map}
use Rattle.just_meaning.specs.Line.{line_expressions}
use Rattle.just_syntax.specs.View.{fragment_view, line_view}
use Rattle.just_recipe.specs.Expressions.{part_view}
use Rattle.just_recipe.proofs.expressions.add_line.Given as goal

-- the interpolations so far, and then those of the fragments that are left
abbrev pub invariant-loop-fragment : goal.invariant-loop-fragment
invariant-loop-fragment l = map part_view l.parts.items ++ line_expressions (map fragment_view (drop l.fragment-index l.line.fragments.items))
    ≡ map part_view l.initial.parts.items ++ line_expressions (line_view l.line)
