use Rattle.just_bench.proofs.Scripted.{bare_known}
use Rattle.just_bench.proofs.program.run.Goals as goal

pub returns-clause-answer : goal.returns-clause-answer
returns-clause-answer g c = rw c.exit_status.ensures (bare_known _ _ _ _ c.answer_stream.ensures.written)
