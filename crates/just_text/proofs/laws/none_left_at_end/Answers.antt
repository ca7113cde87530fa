use Rattle.just_text.proofs.Ends.{ends_left}
use Rattle.just_text.proofs.laws.none_left_at_end.Goals as goal

pub returns : goal.returns
returns c = ends_left
