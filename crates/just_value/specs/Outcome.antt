-- The result of an evaluation.
use Rattle.just_interaction.specs.Outcome as interaction
use Rattle.just_value.specs.Refusal.{Refusal}
pub use Rattle.just_interaction.specs.Outcome.{Gave, Refused, Stopped, UnlessStopped, and_then, without_value}

-- a value, a refusal, or stopped because memory ran out
abbrev pub Outcome : Type 0 → Type 0
Outcome A = interaction.Outcome Refusal A
