use Rattle.just_bench.proofs.Scripted.{bare_evaluated}
use Rattle.just_bench.proofs.program.evaluate_in_scope.Goals as goal

pub returns-clause-answer : goal.returns-clause-answer
returns-clause-answer c = bare_evaluated _ _ _ _ _ c.evaluate_in.ensures.answer
