use Rattle.just_meaning.proofs.Overridden.{stays_resolved}
use Rattle.just_bench.proofs.Printed.{run_printed}
use Rattle.just_bench.proofs.Seen.{recorder_seen}
use Rattle.just_bench.proofs.run.evaluate_module.Goals as goal

pub returns-clause-answer : goal.returns-clause-answer
returns-clause-answer g c =
    run_printed _ _ _ _ c.in_ok-resolved.resolved _ _ _ _ _ _ _ _ c.print_outcome.result
    c.in_ok-resolved.ensures
    (λ resolved. recorder_seen _ _ _ c.requires.fresh (c.evaluate-outcome.ensures.headline (stays_resolved _ _ _ _ resolved)))
    (recorder_seen _ _ _ c.requires.fresh c.evaluate-outcome.ensures.dynamic)
    c.in_ok-print_unless_resolved.ensures c.in_ok-print_questions.ensures c.questions.ensures c.print_outcome.ensures.printed c.print_outcome.ensures.ends
