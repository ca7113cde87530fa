use Rattle.just_soundness.proofs.Overridden.{pending_calls_do_not_matter}
use Rattle.just_soundness.proofs.laws.pending_calls_do_not_matter.Goals as goal

pub returns : goal.returns
returns c = pending_calls_do_not_matter
