use Rattle.std.proofs.Common.{◌≡◌, ◌*◌, suc, map, take}
use Rattle.just_syntax.specs.Prelude.{literal_view, piece_view, renumbered, view}
use Rattle.just_syntax.proofs.expression.copy.+copy.Given as goal

-- the levels that are left, and one for each call before the next part
abbrev pub decreases-copy : goal.decreases-copy
decreases-copy g l = 3 * l.levels

abbrev pub decreases-boxed : goal.decreases-boxed
decreases-boxed g l = suc (3 * l.levels)

abbrev pub decreases-row : goal.decreases-row
decreases-row g l = suc (3 * l.levels)

abbrev pub decreases-pieces : goal.decreases-pieces
decreases-pieces g l = suc (3 * l.levels)

abbrev pub decreases-boxed_pair : goal.decreases-boxed_pair
decreases-boxed_pair g l = suc (suc (3 * l.levels))

abbrev pub decreases-boxed_with : goal.decreases-boxed_with
decreases-boxed_with g l = suc (suc (3 * l.levels))

abbrev pub decreases-call : goal.decreases-call
decreases-call g l = suc (suc (3 * l.levels))

abbrev pub decreases-list : goal.decreases-list
decreases-list g l = suc (suc (3 * l.levels))

abbrev pub decreases-format_string : goal.decreases-format_string
decreases-format_string g l = suc (suc (3 * l.levels))

-- copies of the expressions so far were added
abbrev pub invariant-row-loop-expression : goal.invariant-row-loop-expression
invariant-row-loop-expression g l = map view l.copies.items
    ≡ map (λ e. renumbered (g.N.Numbers.number_of l.numbers) (view e)) (take l.expression-index l.expression-items)

-- the same for interpolations
abbrev pub invariant-pieces-loop-expression : goal.invariant-pieces-loop-expression
invariant-pieces-loop-expression g l = map piece_view l.copies.items
    ≡ map (λ p. (renumbered (g.N.Numbers.number_of l.numbers) (view p.0), literal_view p.1)) (take l.expression-index l.expression-items)
