use Rattle.just_bench.proofs.OneAnswer.{one_answer}
use Rattle.just_bench.proofs.laws.one_answer.Goals as goal

pub returns : goal.returns
returns c = one_answer
