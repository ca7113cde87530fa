use Rattle.just_laws.proofs.Decide.{answers_decide}
use Rattle.just_laws.proofs.laws.answers_decide.Goals as goal

pub returns : goal.returns
returns c = answers_decide
