use Rattle.just_expression.proofs.Exits.{runs_exit}
use Rattle.just_eval.proofs.Commands.{lines_all, lines_cut, lines_cut_off, lines_ends, lines_next, lines_start}
use Rattle.just_eval.proofs.evaluator.Evaluator.evaluate_lines_by_dynamic_scoping.Goals as goal

pub loop-line-init : goal.loop-line-init
loop-line-init g c = rw c.new-joined.ensures lines_start

pub returns-in_err-text : goal.returns-in_err-text
returns-in_err-text g c =
    runs_exit _ _ _ c.from_residual.ensures.1 (lines_ends c.loop-line.invariant c.loop-line-test.true c.line-item.is _ c.in_err-text.ensures.dynamic)

pub returns-in_err-add : goal.returns-in_err-add
returns-in_err-add g c =
    runs_exit _ _ _ c.from_residual-in_err-add.ensures.1
    (lines_cut c.loop-line.invariant c.loop-line-test.true c.line-item.is _ c.in_ok-text.ensures.dynamic)

pub loop-line-preserved : goal.loop-line-preserved
loop-line-preserved g c =
    rw (c.in_ok-add.ensures, c.deref.ensures)
    (lines_next c.loop-line.invariant c.loop-line-test.true c.line-item.is _ c.in_ok-text.ensures.dynamic)

pub returns-in_err-into_commands : goal.returns-in_err-into_commands
returns-in_err-into_commands g c =
    runs_exit _ _ _ c.from_residual-in_err-into_commands.ensures.1 (lines_cut_off c.loop-line.invariant c.loop-line-test.false)

pub returns : goal.returns
returns g c = rw c.in_ok-into_commands.ensures (lines_all c.loop-line.invariant c.loop-line-test.false)
