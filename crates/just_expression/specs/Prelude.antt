-- The names that the contracts and proofs of this crate share, passed on from one place. Declares nothing.
pub use Rattle.just_builtins.specs.Argument.{HasTexts, IsExpected}
pub use Rattle.just_builtins.specs.Called.{tree}
pub use Rattle.just_builtins.specs.Meaning.{reply}
pub use Rattle.just_builtins.specs.Shape.{builtin_of}
unfoldable pub use Rattle.just_builtins.specs.Table.{function_named}
pub use Rattle.just_host.specs.Interaction.{Entered, Rules, Step, Tree, bind, freely, gives, note, refuses, Behaves}
pub use Rattle.just_host.specs.Interaction.{unchecked}
pub use Rattle.just_host.specs.View.{fixed_view, function_context_view}
pub use Rattle.just_meaning.specs.Callee.{accepts, callee, undefined}
pub use Rattle.just_meaning.specs.Closings.{dynamic, inside, with_parameters}
pub use Rattle.just_meaning.specs.Meaning.{Program, as_it_is, asserted, assertion, assertion_text, branch}
pub use Rattle.just_meaning.specs.Meaning.{built_in_call, called, choice, combination, command, command_value, compared}
pub use Rattle.just_meaning.specs.Meaning.{comparison, conjunction, disjunction, eval, eval_pieces, faulted, flatten}
pub use Rattle.just_meaning.specs.Meaning.{formatted, is_regex, named, negation, returned, succession, unindented_if}
pub use Rattle.just_meaning.specs.Meaning.{variable}
pub use Rattle.just_meaning.specs.Settings.{text_in}
pub use Rattle.just_meaning.specs.View.{program_view}
pub use Rattle.just_syntax.specs.Keyed.{value_at}
pub use Rattle.just_syntax.specs.Plain.{Function, Text, Token}
pub use Rattle.just_syntax.specs.View.{function_view, literal_view, name_view, pairs_view, parameter_view, piece_views}
pub use Rattle.just_syntax.specs.View.{string_context_view, token_view, view}
pub use Rattle.just_syntax.specs.declared.list_operator.ListOperator.TheVariants.{Join}
pub use Rattle.just_value.specs.Frames.{Frames, plainly_bound, value_in}
pub use Rattle.just_value.specs.Outcome.{Gave, Outcome, Refused, Stopped, UnlessStopped, without_value}
pub use Rattle.just_value.specs.Refusal.{Internal, ListInStringContext, Refusal}
pub use Rattle.just_value.specs.Value.{Value, from_condition, joined}
pub use Rattle.just_value.specs.View.{bound_view, ended, fault_view, frames_view, refusal}
pub use Rattle.just_expression.specs.Call.{BuiltIn, Defined, EndsBefore, Enters, Fits, RefusesWith, look, reached_view}
pub use Rattle.just_expression.specs.Call.{requires_text}
pub use Rattle.just_expression.specs.Parameter.{parameters_innermost}
pub use Rattle.just_expression.specs.Reason.{reason_text}
pub use Rattle.just_expression.specs.View.{RunsTo, context_of, deeper, is_non_const, meaning, open_in, operand_view}
pub use Rattle.just_expression.specs.View.{program, row, rules, situation}
