use Rattle.std.proofs.Common.{◌≡◌, ◌*◌, ◌++◌, max, suc, ℕ, List, drop, [], Option, Some, None, Bor}
use Rattle.std.specs.Fmt.{HasWrittenStyled, IsFlush}
use denote.Text.{Utf8}
use denote.Shadow.{shadow}
use Rattle.just_syntax.specs.Prelude.{piece_views, printed_pieces, printed_row, views}
use Rattle.just_syntax.specs.declared.expression.Expression.{Expression, size-Expression}
use Rattle.just_syntax.proofs.printed.+print.Given as goal

abbrev size_of : Option (Bor Expression) → ℕ
size_of None = 0
size_of (Some e) = size-Expression e.now

-- the size of the rest, plus one if there are several parts
abbrev pub decreases-print : goal.decreases-print
decreases-print g l = 3 * size-Expression l.expression.now

abbrev pub decreases-print_after : goal.decreases-print_after
decreases-print_after g l = suc (3 * size-Expression l.expression.now)

abbrev pub decreases-print_between : goal.decreases-print_between
decreases-print_between g l = suc (3 * max (size-Expression l.lhs.now) (size-Expression l.rhs.now))

abbrev pub decreases-print_assert : goal.decreases-print_assert
decreases-print_assert g l = suc (3 * max (size-Expression l.condition.now) (size_of l.message))

abbrev pub decreases-print_conditional : goal.decreases-print_conditional
decreases-print_conditional g l = suc (suc (3 * max (max (size-Expression l.condition.now) (size-Expression l.consequence.now)) (size_of l.otherwise)))

abbrev pub decreases-print_join : goal.decreases-print_join
decreases-print_join g l = suc (suc (3 * max (size_of l.lhs) (size-Expression l.rhs.now)))

abbrev pub decreases-print_group : goal.decreases-print_group
decreases-print_group g l = suc (suc (3 * size-Expression l.contents.now))

abbrev pub decreases-print_list : goal.decreases-print_list
decreases-print_list g l = suc (suc (3 * goal.size-print_list g l))

abbrev pub decreases-print_call : goal.decreases-print_call
decreases-print_call g l = suc (suc (3 * goal.size-print_call g l))

abbrev pub decreases-print_row : goal.decreases-print_row
decreases-print_row g l = suc (3 * goal.size-print_row g l)

abbrev pub decreases-print_format_string : goal.decreases-print_format_string
decreases-print_format_string g l = suc (3 * goal.size-print_format_string g l)

-- what was written since the loop began, followed by the rest, is the whole row
abbrev pub invariant-print_row-loop-expression : goal.invariant-print_row-loop-expression
invariant-print_row-loop-expression g l = record {
  separator : shadow (Utf8 l.separator);
  written : IsFlush l.initial.f
      → (text : List ℕ) × (text ++ printed_row l.separator (views (drop l.expression-index l.expressions)) ≡ printed_row [] (views l.expressions))
      × HasWrittenStyled g.W.Write.write_str_gives l.initial.f text l.f;
}

-- what was written since the loop began, followed by the rest, is all of the interpolations
abbrev pub invariant-print_format_string-loop-expression : goal.invariant-print_format_string-loop-expression
invariant-print_format_string-loop-expression g l =
    IsFlush l.initial.f
    → (text : List ℕ) × (text ++ printed_pieces (piece_views (drop l.expression-index l.expressions)) ≡ printed_pieces (piece_views l.expressions))
    × HasWrittenStyled g.W.Write.write_str_gives l.initial.f text l.f
