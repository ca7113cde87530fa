use Rattle.std.proofs.Common.{IsTrue, ap, subst}
use Rattle.std.proofs.lemmas.List.{drop_all}
use Rattle.just_syntax.specs.Prelude.{levels_of_pieces, levels_of_row, piece_views, view, views}
use Rattle.just_syntax.proofs.Rows.{pieces_front, views_front}
use Rattle.just_syntax.proofs.Levels.{all_alike, levels_call, levels_format_string, levels_list, none_alike, none_fits, one_more}
use Rattle.just_syntax.proofs.condition.+fits.Goals as goal

pub fits-returns-then-budget-lt-PRINTED : goal.fits-returns-then-budget-lt-PRINTED
fits-returns-then-budget-lt-PRINTED t c = none_fits (view c.args.expression.now) c.args.budget c.if-budget-lt-PRINTED.true

pub fits-returns-in-Call : goal.fits-returns-in-Call
fits-returns-in-Call t c =
    rw (c.in-Call.is, levels_call, ← c.deref-in-Call.ensures.value) (one_more _ _ c.args.budget c.if-budget-lt-PRINTED.false c.row_fits.ensures)

pub fits-returns-in-FormatString : goal.fits-returns-in-FormatString
fits-returns-in-FormatString t c =
    rw (c.in-FormatString.is, levels_format_string, ← c.deref-in-FormatString.ensures.value)
    (one_more _ _ c.args.budget c.if-budget-lt-PRINTED.false c.pieces_fit.ensures)

pub fits-returns-in-List : goal.fits-returns-in-List
fits-returns-in-List t c =
    rw (c.in-List.is, levels_list, ← c.deref-in-List.ensures.value) (one_more _ _ c.args.budget c.if-budget-lt-PRINTED.false c.row_fits-in-List.ensures)

pub row_fits-returns-then-not-fits : goal.row_fits-returns-then-not-fits
row_fits-returns-then-not-fits t c =
    let front =
    views_front c.args.expressions.now c.loop-expression.expression-index c.expression-item.result c.loop-expression-test.true c.expression-item.is in
    none_alike _ _ _ c.args.budget (λ fits. subst IsTrue c.if-not-fits.true (c.fits.ensures.1 fits))
    (rw (ap levels_of_row front) at c.loop-expression.invariant)

pub row_fits-returns : goal.row_fits-returns
row_fits-returns t c =
    all_alike _ _ c.args.budget
    (ap (λ es. levels_of_row (views es)) (drop_all c.loop-expression.expression-index c.args.expressions.now c.loop-expression-test.false))
    c.loop-expression.invariant

pub pieces_fit-returns-then-not-fits : goal.pieces_fit-returns-then-not-fits
pieces_fit-returns-then-not-fits t c =
    let front = pieces_front c.args.expressions.now c.loop-expression.expression-index c.loop-expression-item.result c.loop-expression-test.true
    c.loop-expression-item.is in
    none_alike _ _ _ c.args.budget (λ fits. subst IsTrue c.if-not-fits.true (c.fits.ensures.1 fits))
    (rw (ap levels_of_pieces front) at c.loop-expression.invariant)

pub pieces_fit-returns : goal.pieces_fit-returns
pieces_fit-returns t c =
    all_alike _ _ c.args.budget
    (ap (λ es. levels_of_pieces (piece_views es)) (drop_all c.loop-expression.expression-index c.args.expressions.now c.loop-expression-test.false))
    c.loop-expression.invariant
