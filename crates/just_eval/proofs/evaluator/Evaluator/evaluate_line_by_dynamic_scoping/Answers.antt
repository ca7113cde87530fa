use Rattle.just_expression.proofs.Exits.{runs_exit}
use Rattle.just_eval.proofs.Lines.{line_all, line_cut, line_ends, line_next, line_start}
use Rattle.just_eval.proofs.evaluator.Evaluator.evaluate_line_by_dynamic_scoping.Goals as goal

pub loop-fragment-init : goal.loop-fragment-init
loop-fragment-init g c = rw c.new-text.ensures.bytes line_start

pub returns-in_err-more : goal.returns-in_err-more
returns-in_err-more g c =
    runs_exit _ _ _ c.from_residual.ensures.1 (line_ends c.loop-fragment.invariant (rw c.deref-fragment-items.ensures.value at c.loop-fragment-test.true)
    (rw c.deref-fragment-items.ensures.value at c.fragment-item.is) _ c.in_err-more.ensures)

pub returns-in_err-push_str : goal.returns-in_err-push_str
returns-in_err-push_str g c =
    runs_exit _ _ _ c.from_residual-in_err-push_str.ensures.1
    (line_cut c.loop-fragment.invariant (rw c.deref-fragment-items.ensures.value at c.loop-fragment-test.true)
    (rw c.deref-fragment-items.ensures.value at c.fragment-item.is) _ c.in_ok-more.ensures)

pub loop-fragment-preserved : goal.loop-fragment-preserved
loop-fragment-preserved g c =
    rw (c.in_ok-push_str.ensures.bytes, c.deref.ensures)
    (line_next c.loop-fragment.invariant (rw c.deref-fragment-items.ensures.value at c.loop-fragment-test.true)
    (rw c.deref-fragment-items.ensures.value at c.fragment-item.is) _ c.in_ok-more.ensures)

pub returns : goal.returns
returns g c = line_all c.loop-fragment.invariant (rw c.deref-fragment-items.ensures.value at c.loop-fragment-test.false)
