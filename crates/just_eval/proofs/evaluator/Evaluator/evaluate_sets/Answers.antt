use Rattle.std.proofs.Common.{map, refl, rules}
use Rattle.just_eval.specs.Prelude.{Gave, UnlessStopped, const_ended, const_value, set_view, settings, settings_view, stage_state_of}
use Rattle.just_host.specs.Settings.{unset}
use Rattle.just_soundness.proofs.ConstInternal.{IsOther}
use Rattle.just_soundness.proofs.Constants.{unless_such}
use Rattle.just_soundness.proofs.SettingsInternal.{settings_not}
use Rattle.just_eval.proofs.evaluator.Evaluator.evaluate_sets.Goals as goal

pub returns-clause-headline : goal.returns-clause-headline
returns-clause-headline c = c.loop-set.invariant (Gave (settings_view c.loop-set.settings)) (rw c.in-None.ensures.steps.0 refl)

pub returns-in_err-evaluate_set-clause-never_internal : goal.returns-in_err-evaluate_set-clause-never_internal
returns-in_err-evaluate_set-clause-never_internal c = λ resolved.
    let determined : UnlessStopped (const_ended settings_view c.from_residual.result)
    (settings (const_value (stage_state_of c.args.self.now)) (map set_view c.args.sets)) = search rules in
    unless_such IsOther _ _ determined (settings_not (stage_state_of c.args.self.now) unset (map set_view c.args.sets) resolved)
