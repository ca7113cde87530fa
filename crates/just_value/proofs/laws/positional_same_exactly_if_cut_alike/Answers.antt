use Rattle.just_value.proofs.PositionalLaws.{same_exactly_if_cut_alike}
use Rattle.just_value.proofs.laws.positional_same_exactly_if_cut_alike.Goals as goal

pub returns : goal.returns
returns c = same_exactly_if_cut_alike
