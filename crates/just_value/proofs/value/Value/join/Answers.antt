use Rattle.std.proofs.Common.{◌∙◌, refl}
use Rattle.just_value.proofs.value.Value.join.Goals as goal

pub returns : goal.returns
returns c = c.in_ok-text.ensures.ok ∙ rw (c.deref.ensures.value, ← c.self.view_is) refl
