use Rattle.just_laws.proofs.Constants.{const_agrees}
use Rattle.just_laws.proofs.laws.const_agrees.Goals as goal

pub returns : goal.returns
returns c = const_agrees
