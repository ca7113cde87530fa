use Rattle.just_value.proofs.PositionalLaws.{means_the_cut}
use Rattle.just_value.proofs.laws.positional_means_the_cut.Goals as goal

pub returns : goal.returns
returns c = means_the_cut
