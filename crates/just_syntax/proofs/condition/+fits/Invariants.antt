use Rattle.std.proofs.Common.{◌*◌, drop, suc}
use Rattle.just_syntax.specs.Prelude.{levels_of_pieces, levels_of_row, piece_views, views}
use Rattle.just_syntax.proofs.Levels.{FitAlike}
use Rattle.just_syntax.proofs.condition.+fits.Given as goal

-- each level reduces the budget
abbrev pub decreases-fits : goal.decreases-fits
decreases-fits l = 2 * l.budget

abbrev pub decreases-both_fit : goal.decreases-both_fit
decreases-both_fit l = suc (2 * l.budget)

abbrev pub decreases-part_fits : goal.decreases-part_fits
decreases-part_fits l = suc (2 * l.budget)

abbrev pub decreases-row_fits : goal.decreases-row_fits
decreases-row_fits l = suc (2 * l.budget)

abbrev pub decreases-pieces_fit : goal.decreases-pieces_fit
decreases-pieces_fit l = suc (2 * l.budget)

-- the rest fits exactly if all do
abbrev pub invariant-row_fits-loop-expression : goal.invariant-row_fits-loop-expression
invariant-row_fits-loop-expression l = FitAlike (levels_of_row (views (drop l.expression-index l.expressions))) (levels_of_row (views l.expressions)) l.budget

abbrev pub invariant-pieces_fit-loop-expression : goal.invariant-pieces_fit-loop-expression
invariant-pieces_fit-loop-expression l =
    FitAlike (levels_of_pieces (piece_views (drop l.expression-index l.expressions))) (levels_of_pieces (piece_views l.expressions)) l.budget
