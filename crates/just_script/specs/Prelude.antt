-- The names that the contracts and proofs of this crate share, passed on from one place. Declares nothing.
pub use Rattle.just_host.specs.Question.{Failed, Replied, UnlessNoMemory}
pub use Rattle.just_host.specs.View.{replied, text_replied}
pub use Rattle.just_syntax.specs.View.{pair_view}
pub use Rattle.just_value.specs.View.{fault_view}
pub use Rattle.just_script.specs.Failing.{broken}
pub use Rattle.just_script.specs.Script.{text_for}
pub use Rattle.just_script.specs.View.{failing_view, script_view}
