use Rattle.std.proofs.Common.{◌≡◌, ◌*◌, max, suc, ℕ, drop, Option, Some, None, Bor}
use Rattle.just_syntax.specs.Prelude.{occurrences_view, occurring_in_pieces, occurring_in_row, piece_views, views}
use Rattle.just_syntax.specs.declared.expression.Expression.{Expression, size-Expression}
use Rattle.just_syntax.proofs.occurrences.+add.Given as goal

abbrev size_of : Option (Bor Expression) → ℕ
size_of None = 0
size_of (Some e) = size-Expression e.now

-- the size of the rest, plus one for several parts, or two
abbrev pub decreases-add : goal.decreases-add
decreases-add l = 3 * size-Expression l.expression.now

abbrev pub decreases-add_both : goal.decreases-add_both
decreases-add_both l = suc (3 * max (size-Expression l.lhs.now) (size-Expression l.rhs.now))

abbrev pub decreases-add_some : goal.decreases-add_some
decreases-add_some l = suc (3 * size_of l.expression)

abbrev pub decreases-add_assert : goal.decreases-add_assert
decreases-add_assert l = suc (suc (3 * max (size-Expression l.condition.now) (size_of l.message)))

abbrev pub decreases-add_conditional : goal.decreases-add_conditional
decreases-add_conditional l = suc (suc (3 * max (max (size-Expression l.condition.now) (size-Expression l.consequence.now)) (size_of l.otherwise)))

abbrev pub decreases-add_join : goal.decreases-add_join
decreases-add_join l = suc (suc (3 * max (size_of l.lhs) (size-Expression l.rhs.now)))

abbrev pub decreases-add_row : goal.decreases-add_row
decreases-add_row l = suc (3 * goal.size-add_row l)

abbrev pub decreases-add_call : goal.decreases-add_call
decreases-add_call l = suc (suc (3 * goal.size-add_call l))

abbrev pub decreases-add_pieces : goal.decreases-add_pieces
decreases-add_pieces l = suc (3 * goal.size-add_pieces l)

-- the occurrences of the rest, appended to those so far, are those of the row
abbrev pub invariant-add_row-loop-expression : goal.invariant-add_row-loop-expression
invariant-add_row-loop-expression l =
    occurring_in_row (occurrences_view l.all.items) (views (drop l.expression-index l.expressions))
    ≡ occurring_in_row (occurrences_view l.fn.all.items) (views l.expressions)

-- the same for interpolations
abbrev pub invariant-add_pieces-loop-expression : goal.invariant-add_pieces-loop-expression
invariant-add_pieces-loop-expression l =
    occurring_in_pieces (occurrences_view l.all.items) (piece_views (drop l.expression-index l.expressions))
    ≡ occurring_in_pieces (occurrences_view l.fn.all.items) (piece_views l.expressions)
