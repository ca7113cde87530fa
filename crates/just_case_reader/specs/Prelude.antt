-- The names that the contracts and proofs of this crate share, passed on from one place. Declares nothing.
pub use Rattle.just_syntax.specs.Keyed.{value_at, with_value}
pub use Rattle.just_syntax.specs.Plain.{Nil, Text}
pub use Rattle.just_syntax.specs.View.{assert_view, name_view, parameter_view, token_view, view, views}
pub use Rattle.just_case_reader.specs.Done.{Done, IfBad}
pub use Rattle.just_case_reader.specs.Line.{Assign, Bad, Call, Dotenv, Fail, ListOf, Override, bare_line}
pub use Rattle.just_case_reader.specs.Line.{case_line_of, first_name_line, is_skipped, limit, line_of_text}
pub use Rattle.just_case_reader.specs.Line.{line_of_word}
pub use Rattle.just_case_reader.specs.Line.{lines_of, name_line, number_line, operator_line, rare_line, says_nothing}
pub use Rattle.just_case_reader.specs.Numbering.{KnownNames, number_of, parameters_with_numbers, with_names}
pub use Rattle.just_case_reader.specs.Reading.{BadLine, Describes, described, described_from, finished, names_in}
pub use Rattle.just_case_reader.specs.Reading.{nothing, read, step, with_stack}
pub use Rattle.just_case_reader.specs.Rest.{if_names, is_name, names, number, spaced_pieces}
pub use Rattle.just_case_reader.specs.Rest.{rest_of, word_of}
pub use Rattle.just_case_reader.specs.Stack.{of_operand, several, stack_after, together}
pub use Rattle.just_case_reader.specs.Token.{token_of}
pub use Rattle.just_case_reader.specs.View.{case_line_view, case_view, evaluation_view, numbering_view, reading_view}
pub use Rattle.just_case_reader.specs.View.{stack_view}
pub use Rattle.just_case_reader.specs.declared.line_error.LineError.TheVariants.{OutOfMemory as Wanted}
