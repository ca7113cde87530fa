use Rattle.std.proofs.Common.{sym}
use Rattle.just_value.proofs.Values.{value_innermost}
use Rattle.just_value.proofs.laws.value_is_of_binding.Goals as goal

pub returns : goal.returns
returns c = λ frames n. sym (value_innermost n frames)
