use Rattle.just_laws.proofs.Cones.{blocks_agree}
use Rattle.just_laws.proofs.laws.blocks_agree.Goals as goal

pub returns : goal.returns
returns c = blocks_agree
