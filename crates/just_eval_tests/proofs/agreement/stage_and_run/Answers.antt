use Rattle.std.proofs.Common.{refl}
use Rattle.just_meaning.proofs.Overridden.{stays_resolved}
use Rattle.just_eval_tests.proofs.KeptConstants.{keeps_staged}
use Rattle.just_eval_tests.proofs.agreement.stage_and_run.Goals as goal

pub returns-in-Ok-Ok : goal.returns-in-Ok-Ok
returns-in-Ok-Ok g c = record {
  agrees = λ before resolved.
      keeps_staged c.const_agrees.ensures c.results_have_blocks.ensures _ _ _ _
      (record { assignments = refl; overrides = λ k. refl; same_lists = refl; values = λ k. refl })
      before resolved _ _ (rw (c.in-Ok-Ok.is-0, c.deref.ensures.value) at c.evaluate_const_assignments-stage.ensures.headline)
      (rw c.in-Ok-Ok.is-1 at c.evaluate_assignments-run.ensures.headline (stays_resolved _ _ _ _ resolved));
}
