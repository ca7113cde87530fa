use Rattle.just_soundness.proofs.Alike.{frames_do_not_matter}
use Rattle.just_soundness.proofs.laws.frames_do_not_matter.Goals as goal

pub returns : goal.returns
returns c = frames_do_not_matter
