use Rattle.std.proofs.Common.{refl}
use Rattle.std.proofs.lemmas.List.{append-nil}
use Rattle.just_value.proofs.laws.join_of_none_and_one.Goals as goal

pub returns : goal.returns
returns c = (refl, λ text. append-nil text)
