-- The names of this crate, passed on from one place. Declares nothing.
pub use Rattle.just_interaction.specs.Outcome.{Gave, Outcome, Refused, Stopped, UnlessStopped, and_then, without_value}
pub use Rattle.just_interaction.specs.Signature.{Signature}
pub use Rattle.just_interaction.specs.Trace.{Asked, Asks, Behaves, Chain, Checked, Checks, Ends, Event, GoesByAnswers}
pub use Rattle.just_interaction.specs.Trace.{Noted, Notes, Path, Rules, Shuts, Step, Stops, Verdicts, freely, unchecked}
pub use Rattle.just_interaction.specs.Tree.{Tree, ask, bind, check, done, gives, note, refuses}
