-- The names that the contracts and proofs of this crate share, passed on from one place. Declares nothing.
pub use Rattle.just_eval.specs.View.{IsConst, MayCall, stage_state_of}
pub use Rattle.just_meaning.specs.Module.{IsResolvedModule}
pub use Rattle.just_meaning.specs.Resolved.{IsResolvedConst}
pub use Rattle.just_meaning.specs.View.{run_of}
pub use Rattle.just_value.specs.View.{frames_view}
pub use Rattle.just_eval_tests.specs.Agreement.{KeepsConstants}
