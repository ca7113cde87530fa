use Rattle.just_bench.proofs.Scripted.{failing_known}
use Rattle.just_bench.proofs.program.run_failing.Goals as goal

pub returns-clause-answer : goal.returns-clause-answer
returns-clause-answer g c = rw c.exit_status.ensures (failing_known c.args.passed c.args.how _ _ _ _ c.answer_stream.ensures.written)
