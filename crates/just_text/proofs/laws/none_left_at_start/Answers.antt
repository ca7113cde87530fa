use Rattle.just_text.proofs.Ends.{starts_left}
use Rattle.just_text.proofs.laws.none_left_at_start.Goals as goal

pub returns : goal.returns
returns c = starts_left
