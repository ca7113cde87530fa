-- The names that the contracts and proofs of this crate share, passed on from one place. Declares nothing.
pub use Rattle.just_syntax.specs.Enclosure.{ticked}
pub use Rattle.just_syntax.specs.Keyed.{IsInOrder, IsKeyed, value_at, with_value}
pub use Rattle.just_syntax.specs.Levels.{levels, levels_of_part, levels_of_pieces, levels_of_row}
pub use Rattle.just_syntax.specs.ListOperator.{separator}
pub use Rattle.just_syntax.specs.NumberSet.{is_member}
pub use Rattle.just_syntax.specs.Occurrences.{CallAt, CommandAt, occurrences_in, occurring}
pub use Rattle.just_syntax.specs.Occurrences.{occurring_in_call, occurring_in_pieces, occurring_in_row}
pub use Rattle.just_syntax.specs.Occurrences.{VariableAt, occurring_in_some}
pub use Rattle.just_syntax.specs.ParameterKind.{is_variadic}
pub use Rattle.just_syntax.specs.Place.{placed, start_of}
pub use Rattle.just_syntax.specs.Plain.{Assignment, Call, FormatString, ListOf, Text}
pub use Rattle.just_syntax.specs.Printed.{between, comparison_text, printed, printed_assertion, printed_call}
pub use Rattle.just_syntax.specs.Printed.{printed_conditional, printed_join, printed_pieces, printed_row}
pub use Rattle.just_syntax.specs.Renumbered.{as_before, renumbered, renumbered_pieces, renumbered_row}
pub use Rattle.just_syntax.specs.SettingName.{expression_named, flag_named, interpreter_named, setting_name}
pub use Rattle.just_syntax.specs.StringContext.{token}
pub use Rattle.just_syntax.specs.Unindented.{common_indentation, is_gap, lines, unindented_lines}
pub use Rattle.just_syntax.specs.Variables.{first_unknown, given, has_number, number_named}
pub use Rattle.just_syntax.specs.View.{assert_view, assignment_view, attribute_view, attributes_view, conditional}
pub use Rattle.just_syntax.specs.View.{enclosed, expression_interpreter_view, fragment_view, function_view, join}
pub use Rattle.just_syntax.specs.View.{line_view, literal_view, name_view, named_attribute_view}
pub use Rattle.just_syntax.specs.View.{occurrence_view, occurrences_view, pair_view}
pub use Rattle.just_syntax.specs.View.{parameter_view, piece_view, piece_views, place_view, recipe_parameter_view}
pub use Rattle.just_syntax.specs.View.{recipe_view, set_view, setting_view, string_context_view, text_numbered}
pub use Rattle.just_syntax.specs.View.{token_view, unknown_name, view, views}
pub use Rattle.just_syntax.specs.declared.variable_error.VariableError.TheVariants.{OutOfMemory as Wanted}
