use Rattle.std.proofs.Common.{map, take, ◌≡◌}
use Rattle.just_syntax.specs.View.{line_view}
use Rattle.just_parser.specs.Recipes.{trimmed}
use Rattle.just_parser.proofs.body.kept.Given as goal

-- of the lines so far, these are kept
abbrev pub invariant-loop-index : goal.invariant-loop-index
invariant-loop-index l = map line_view (take l.kept l.lines) ≡ trimmed (map line_view (take l.index l.lines))
