use Rattle.just_soundness.proofs.Overridden.{resolved_is_never_internal}
use Rattle.just_soundness.proofs.laws.resolved_is_never_internal.Goals as goal

pub returns : goal.returns
returns c = resolved_is_never_internal
