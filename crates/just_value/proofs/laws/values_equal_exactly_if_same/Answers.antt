use Rattle.just_value.proofs.Texts.{same_exactly_if_equal}
use Rattle.just_value.proofs.laws.values_equal_exactly_if_same.Goals as goal

pub returns : goal.returns
returns c = same_exactly_if_equal
