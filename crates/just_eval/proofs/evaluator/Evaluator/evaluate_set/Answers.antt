use Rattle.just_soundness.proofs.ConstInternal.{IsOther}
use Rattle.just_soundness.proofs.Constants.{unless_such}
use Rattle.just_eval.specs.Prelude.{set_view, settings_view, stage_state_of}
use Rattle.just_eval.proofs.Constants.{set_not}
use Rattle.just_eval.proofs.evaluator.Evaluator.evaluate_set.Goals as goal

pub returns-clause-never_internal : goal.returns-clause-never_internal
returns-clause-never_internal c = λ resolved.
    unless_such IsOther _ _ c.store_set.ensures.set
    (set_not (stage_state_of c.args.self.now) (settings_view c.args.settings.now) (set_view c.args.set.now) resolved)
