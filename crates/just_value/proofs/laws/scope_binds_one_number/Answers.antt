use Rattle.just_value.proofs.Bound.{binds_one_number}
use Rattle.just_value.proofs.laws.scope_binds_one_number.Goals as goal

pub returns : goal.returns
returns c = binds_one_number
