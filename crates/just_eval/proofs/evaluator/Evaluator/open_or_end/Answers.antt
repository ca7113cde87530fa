use Rattle.std.proofs.Common.{ap, refl}
use Rattle.just_eval.specs.Prelude.{Gave, refusal}
use Rattle.just_value.specs.View.{const_refusal}
use Rattle.just_eval.specs.View.{Opens}
use Rattle.just_eval.proofs.Assigned.{opened_exit, stage_state_opened}
use Rattle.just_eval.proofs.evaluator.Evaluator.open_or_end.Goals as goal

pub returns-in_err-insert-in-Const-clause-ended : goal.returns-in_err-insert-in-Const-clause-ended
returns-in_err-insert-in-Const-clause-ended c =
    Opens (const_refusal c.in-Const.field-0) (ap refusal c.in-Const.is) (opened_exit _ _ _ _ c.from_residual.ensures.1 tt)

pub returns-in_ok-insert-in-Const-clause-ended : goal.returns-in_ok-insert-in-Const-clause-ended
returns-in_ok-insert-in-Const-clause-ended c =
    Opens (const_refusal c.in-Const.field-0) (ap refusal c.in-Const.is)
    (ap Gave (stage_state_opened c.args.self.now (record c.args.self.now { non_const_assignments = c.insert.new.self }) c.args.number refl refl
    c.in_ok-insert-in-Const.ensures.updates.0))
