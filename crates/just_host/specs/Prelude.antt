-- The names that the contracts and proofs of this crate share, passed on from one place. Declares nothing.
pub use Rattle.just_syntax.specs.Plain.{Text}
pub use Rattle.just_syntax.specs.View.{assignment_view, function_view, pairs_view}
pub use Rattle.just_value.specs.Outcome.{Gave, Outcome, Refused, Stopped, without_value}
pub use Rattle.just_value.specs.Refusal.{Refusal}
pub use Rattle.just_value.specs.View.{fault_view, frame_view, frames_view}
pub use Rattle.just_host.specs.CommandLine.{command_line}
pub use Rattle.just_host.specs.Exports.{ComeToTheSame, Removes, after_changes, exports, frame_exports, frames_exports}
pub use Rattle.just_host.specs.Exports.{framewise}
pub use Rattle.just_host.specs.Fault.{fault_text}
pub use Rattle.just_host.specs.Fixed.{base_directory, working_directory}
pub use Rattle.just_host.specs.Interaction.{Asked, AsksOnce, Chain, Checked, Checks, Ends, Event, Noted, Rules}
pub use Rattle.just_host.specs.Interaction.{Behaves, unchecked}
pub use Rattle.just_host.specs.Interaction.{Step, Stops, Tree, bind, done, gives}
pub use Rattle.just_host.specs.Justfile.{empty_root, with_assignment, with_function}
pub use Rattle.just_host.specs.NoHost.{not_run}
pub use Rattle.just_host.specs.Printed.{command_printed, directory_word, spaced, spaced_given, text_printed}
pub use Rattle.just_host.specs.Question.{Answer, Failed, Question, TextOf, UnlessNoMemory, command_question}
pub use Rattle.just_host.specs.Recorded.{directory_of, kind_of, recorded, text_of}
pub use Rattle.just_host.specs.SettingValue.{entries, interpreter_shown, is_set, setting_entry_view, setting_value_view}
pub use Rattle.just_host.specs.SettingValue.{line_of, value_named}
pub use Rattle.just_host.specs.Settings.{called_in, default_shell_arguments, shell_of, unset}
pub use Rattle.just_host.specs.View.{change_view, command_view, config_view, existence_answer, existence_question}
pub use Rattle.just_host.specs.View.{fixed_view, inner_host, justfile_view, number_answer, number_question}
pub use Rattle.just_host.specs.View.{question_view, recorded_view, records_view, replied, search_view, settings_view}
pub use Rattle.just_host.specs.View.{shell_view, text_question, text_question_view, text_replied}
