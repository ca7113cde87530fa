use Rattle.std.proofs.Common.{refl}
use Rattle.just_value.proofs.laws.child_answers_as_parent.Goals as goal

pub returns : goal.returns
returns c = λ frames n. refl
