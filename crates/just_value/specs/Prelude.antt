-- The names that the contracts and proofs of this crate share, passed on from one place. Declares nothing.
pub use Rattle.just_syntax.specs.ListOperator.{operator_text}
pub use Rattle.just_syntax.specs.Plain.{Text, Token}
pub use Rattle.just_syntax.specs.View.{enclosed, string_context_view, token_view}
pub use Rattle.just_value.specs.Applied.{combined, paired}
pub use Rattle.just_value.specs.ConstEval.{IsConstEval, const_eval_token, list_text, lists_text, operation_text}
pub use Rattle.just_value.specs.ConstRefusal.{const_token}
pub use Rattle.just_value.specs.Frames.{BindsOneNumber, Bound, ChildAnswersAsParent, IsRising, ValueIsOfBinding}
pub use Rattle.just_value.specs.Frames.{bound_at, bound_innermost, constant_bound, innermost, outer_frames, own_frame}
pub use Rattle.just_value.specs.Frames.{value_in, with_bound, with_constants}
pub use Rattle.just_value.specs.Items.{Ends, GivesItems}
pub use Rattle.just_value.specs.Listed.{before, listed, listed_from, outputs}
pub use Rattle.just_value.specs.Numbering.{last_of}
pub use Rattle.just_value.specs.Outcome.{UnlessStopped}
pub use Rattle.just_value.specs.Placed.{ArePlaced, elements_at}
pub use Rattle.just_value.specs.Places.{IsPlace}
pub use Rattle.just_value.specs.Positional.{KeepsWords, MeansTheCut, Positional, SameExactlyIfCutAlike, after_last}
pub use Rattle.just_value.specs.Positional.{cut_after_last, cut_at_first, cut_words, directory_and_tail, is_dots}
pub use Rattle.just_value.specs.Positional.{override_of, positional, tail_before, with_directory, with_override_or_word}
pub use Rattle.just_value.specs.Positional.{with_word}
pub use Rattle.just_value.specs.Rising.{AreRising, AreRisingNames}
pub use Rattle.just_value.specs.Said.{error_token}
pub use Rattle.just_value.specs.Shown.{IsPlain, escaped, quoted, quoted_after, shown}
pub use Rattle.just_value.specs.Value.{EmptyTextIsTruthy, JoinsNoneAndOne, SameExactlyIfEqual, from_condition}
pub use Rattle.just_value.specs.Value.{is_truthy, joined}
pub use Rattle.just_value.specs.View.{ShowsFrame, bindings_left, bound_view}
pub use Rattle.just_value.specs.View.{compile_refusal, compile_token, conjunction_of}
pub use Rattle.just_value.specs.View.{const_eval_refusal, const_refusal, constant_view, enclosing_view, ended}
pub use Rattle.just_value.specs.View.{frame_view, frames_left, frames_view, items_of, positional_view, refusal}
