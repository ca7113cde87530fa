-- The names that the contracts and proofs of this crate share, passed on from one place. Declares nothing.
pub use Rattle.just_host.specs.Fixed.{working_directory}
pub use Rattle.just_host.specs.Function.{Context}
pub use Rattle.just_host.specs.Interaction.{AsksOnce, Step, freely, Behaves, unchecked}
pub use Rattle.just_host.specs.Question.{Answer, ExistsAt, TextOf, Which, frameless}
pub use Rattle.just_host.specs.View.{existence_answer, fixed_view, function_context_view, number_answer, replied}
pub use Rattle.just_host.specs.View.{text_question_view, text_replied}
pub use Rattle.just_syntax.specs.Plain.{Text}
pub use Rattle.just_syntax.specs.View.{pairs_view}
pub use Rattle.just_text.specs.Quote.{single_quoted}
unfoldable pub use Rattle.just_text.specs.Split.{words}
pub use Rattle.just_value.specs.Frames.{Frames}
pub use Rattle.just_value.specs.Outcome.{Gave, Outcome}
pub use Rattle.just_value.specs.Shown.{quoted}
pub use Rattle.just_value.specs.Value.{Value, joined}
pub use Rattle.just_value.specs.View.{frames_view}
pub use Rattle.just_builtins.specs.Argument.{HasOneEach, HasTexts, IsExpected, argument_at, first, texts_given}
pub use Rattle.just_builtins.specs.Argument.{values_given}
pub use Rattle.just_builtins.specs.Asking.{asks_directory, asks_environment, asks_executable, asks_number, asks_system}
pub use Rattle.just_builtins.specs.Asking.{asks_text, asks_which, entry, existence_answered, first_set}
pub use Rattle.just_builtins.specs.Asking.{in_working_directory, number_answered, text_answered, variable_reply}
pub use Rattle.just_builtins.specs.Called.{Asked, AskedBy, AskedOr, Called, GivesOr, IsReply, Replies, RepliesAmong}
pub use Rattle.just_builtins.specs.Called.{Returned, outcome, tree}
pub use Rattle.just_builtins.specs.Meaning.{all_joined, each, has_lists, or_fails, reply, truth}
pub use Rattle.just_builtins.specs.Message.{canonical_not_unicode, directory_not_unicode, directory_unreadable}
pub use Rattle.just_builtins.specs.Message.{executable_not_unicode, executable_unknown, no_directory, unanswered}
pub use Rattle.just_builtins.specs.Message.{no_executable, no_parent, not_canonicalized, not_extracted, not_found}
pub use Rattle.just_builtins.specs.Message.{not_read, outside_recipe, past_ascii, variable_not_unicode}
pub use Rattle.just_builtins.specs.Message.{variable_unreadable}
pub use Rattle.just_builtins.specs.Order.{begins_below, rises}
pub use Rattle.just_builtins.specs.Reply.{Answers, Asks, Fails, FunctionReply, says}
pub use Rattle.just_builtins.specs.Shape.{builtin_of, fewest_arguments, is_text, most_arguments, unasked_nullary}
pub use Rattle.just_builtins.specs.Shape.{unasked_unary, unasked_value_unary}
pub use Rattle.just_builtins.specs.Table.{IsUnnamed, find_in, table, whole_name}
unfoldable pub use Rattle.just_builtins.specs.Table.{function_named, is_left_out}
pub use Rattle.just_builtins.specs.View.{entry_view}
pub use Rattle.just_builtins.specs.declared.call_fault.CallFault.TheVariants.{Internal, OutOfMemory as Wanted}
pub use Rattle.just_builtins.specs.declared.function.Function.TheVariants.{Binary, BinaryOptToValue}
pub use Rattle.just_builtins.specs.declared.function.Function.TheVariants.{BinaryOptValueStrToValue, BinaryPlus}
pub use Rattle.just_builtins.specs.declared.function.Function.TheVariants.{BinaryStrValue, Nullary, Ternary, Unary}
pub use Rattle.just_builtins.specs.declared.function.Function.TheVariants.{UnaryMap, UnaryPlus, UnaryToValue}
pub use Rattle.just_builtins.specs.declared.function.Function.TheVariants.{ValueBinary, ValueBinaryOpt, ValueNullary}
pub use Rattle.just_builtins.specs.declared.function.Function.TheVariants.{ValueUnary}
