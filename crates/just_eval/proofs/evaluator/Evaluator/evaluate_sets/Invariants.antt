use Rattle.std.proofs.Common.{map}
use Rattle.just_eval.specs.Prelude.{Outcome, UnlessStopped, const_value, set_view, settings, settings_view, stage_state_of}
use Rattle.just_host.specs.Settings.{Settings}
use Rattle.just_meaning.specs.Settings.{with_settings}
use Rattle.just_eval.proofs.evaluator.Evaluator.evaluate_sets.Given as goal

-- the result of the sets that are left, from here, is the result of all
abbrev pub invariant-loop-set : goal.invariant-loop-set
invariant-loop-set l =
    let evaluates = const_value (stage_state_of l.self) in
    (o : Outcome Settings) → UnlessStopped o (with_settings evaluates (settings_view l.settings) (map set_view l.set-iterator))
    → UnlessStopped o (settings evaluates (map set_view l.fn.sets))
