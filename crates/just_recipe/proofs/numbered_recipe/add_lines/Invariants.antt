use Rattle.std.proofs.Common.{◌≡◌, ◌++◌, map, take}
use Rattle.just_recipe.specs.Numbered.{numbered_line}
use Rattle.just_resolve.specs.Prelude.{name_number}
use Rattle.just_syntax.specs.View.{line_view}
use Rattle.just_recipe.proofs.numbered_recipe.add_lines.Given as goal

-- copies of the lines so far were added
abbrev pub invariant-loop-line : goal.invariant-loop-line
invariant-loop-line l = map line_view l.copies.items
    ≡ map line_view l.initial.copies.items ++ map (numbered_line (name_number l.names)) (map line_view (take l.line-index l.lines))
