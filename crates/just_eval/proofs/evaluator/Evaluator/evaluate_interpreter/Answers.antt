use Rattle.std.proofs.Common.{Global, arith}
use Rattle.std.proofs.lemmas.Grind.{common_steps}
use Rattle.just_eval.specs.Prelude.{UnlessStopped, const_ended, const_value, expression_interpreter_view, interpreter, interpreter_view, name_view}
use Rattle.just_eval.specs.Prelude.{stage_state_of, view}
use Rattle.just_soundness.proofs.ConstInternal.{IsOther}
use Rattle.just_soundness.proofs.Constants.{unless_such}
use Rattle.just_soundness.proofs.SettingsInternal.{interpreter_not}
use Rattle.just_eval.proofs.Constants.{elements_next}
use Rattle.just_eval.proofs.evaluator.Evaluator.evaluate_interpreter.Goals as goal

pub loop-argument-preserved : goal.loop-argument-preserved
loop-argument-preserved c = λ o h. c.loop-argument.invariant o
    (elements_next _ view c.args.interpreter.now.arguments.items c.loop-argument.argument-index _
    (rw c.deref-argument-items.ensures.value at c.loop-argument-test.true) c.loop-argument.all c.in_ok-value.value _ o
    (rw (c.argument-item.is, c.deref-argument-items.ensures.value) at c.in_ok-value.ensures.headline) (rw c.in_ok-all-2.ensures at h))

pub returns-in_err-value-clause-never_internal : goal.returns-in_err-value-clause-never_internal
returns-in_err-value-clause-never_internal c = λ resolved.
    let determined : UnlessStopped (const_ended (interpreter_view {A = Global}) c.from_residual-in_err-value.result)
    (interpreter (const_value (stage_state_of c.args.self.now)) (name_view c.args.setting) (expression_interpreter_view c.args.interpreter.now)) =
    grind (arith, common_steps) in
    unless_such IsOther _ _ determined (interpreter_not (stage_state_of c.args.self.now) (name_view c.args.setting)
    (expression_interpreter_view c.args.interpreter.now) resolved)
