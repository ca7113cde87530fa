use Rattle.std.proofs.Common.{◌≡◌, ◌↔◌, ◌*◌, max, suc, ℕ, drop, Option, Some, None, Bor}
use Rattle.std.specs.Slice.Iter.{iter_rest}
use Rattle.just_changes.specs.Prelude.{piece_views, views}
use Rattle.just_syntax.specs.declared.expression.Expression.{Expression, size-Expression}
use Rattle.just_changes.proofs.same.+is_same.Given as goal

abbrev size_of : Option (Bor Expression) → ℕ
size_of None = 0
size_of (Some e) = size-Expression e.now

-- the size of the rest of the first expression, plus some for several parts
abbrev pub decreases-is_same : goal.decreases-is_same
decreases-is_same l = 4 * size-Expression l.one.now

abbrev pub decreases-are_both_same : goal.decreases-are_both_same
decreases-are_both_same l = suc (4 * max (size-Expression l.lhs.now) (size-Expression l.rhs.now))

abbrev pub decreases-is_some_same : goal.decreases-is_some_same
decreases-is_some_same l = suc (4 * size_of l.one)

abbrev pub decreases-is_and : goal.decreases-is_and
decreases-is_and l = suc (suc (4 * max (size-Expression l.lhs.now) (size-Expression l.rhs.now)))

abbrev pub decreases-is_assert : goal.decreases-is_assert
decreases-is_assert l = suc (suc (4 * max (size-Expression l.condition.now) (size_of l.message)))

abbrev pub decreases-is_call : goal.decreases-is_call
decreases-is_call l = suc (suc (4 * goal.size-is_call l))

abbrev pub decreases-is_comparison : goal.decreases-is_comparison
decreases-is_comparison l = suc (suc (4 * max (size-Expression l.lhs.now) (size-Expression l.rhs.now)))

abbrev pub decreases-is_concatenation : goal.decreases-is_concatenation
decreases-is_concatenation l = suc (suc (4 * max (size-Expression l.lhs.now) (size-Expression l.rhs.now)))

abbrev pub decreases-is_conditional : goal.decreases-is_conditional
decreases-is_conditional l = suc (suc (4 * max (max (size-Expression l.condition.now) (size-Expression l.consequence.now)) (size_of l.otherwise)))

abbrev pub decreases-is_format : goal.decreases-is_format
decreases-is_format l = suc (suc (4 * goal.size-is_format l))

abbrev pub decreases-is_group : goal.decreases-is_group
decreases-is_group l = suc (4 * size-Expression l.contents.now)

abbrev pub decreases-is_join : goal.decreases-is_join
decreases-is_join l = suc (suc (4 * max (size_of l.lhs) (size-Expression l.rhs.now)))

abbrev pub decreases-is_list : goal.decreases-is_list
decreases-is_list l = suc (suc (4 * goal.size-is_list l))

abbrev pub decreases-is_list_concatenation : goal.decreases-is_list_concatenation
decreases-is_list_concatenation l = suc (suc (4 * max (size-Expression l.lhs.now) (size-Expression l.rhs.now)))

abbrev pub decreases-is_not : goal.decreases-is_not
decreases-is_not l = suc (4 * size-Expression l.operand.now)

abbrev pub decreases-is_or : goal.decreases-is_or
decreases-is_or l = suc (suc (4 * max (size-Expression l.lhs.now) (size-Expression l.rhs.now)))

abbrev pub decreases-are_all_same : goal.decreases-are_all_same
decreases-are_all_same l = suc (4 * goal.size-are_all_same l)

abbrev pub decreases-are_pieces_same : goal.decreases-are_pieces_same
decreases-are_pieces_same l = suc (4 * goal.size-are_pieces_same l)

-- the rest of both decides
abbrev pub invariant-are_all_same-loop-one : goal.invariant-are_all_same-loop-one
invariant-are_all_same-loop-one l = (views (drop l.one-index l.some) ≡ views (iter_rest l.left)) ↔ (views l.some ≡ views l.others)

-- the same for interpolations
abbrev pub invariant-are_pieces_same-loop-one : goal.invariant-are_pieces_same-loop-one
invariant-are_pieces_same-loop-one l = (piece_views (drop l.one-index l.some) ≡ piece_views (iter_rest l.left)) ↔ (piece_views l.some ≡ piece_views l.others)
