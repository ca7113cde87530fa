use Rattle.std.proofs.Common.{refl}
use Rattle.just_value.proofs.laws.empty_text_is_truthy.Goals as goal

pub returns : goal.returns
returns c = refl
