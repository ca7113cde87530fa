-- The names that the contracts and proofs of this crate share, passed on from one place. Declares nothing.
pub use Rattle.just_case_reader.specs.Case.{Blocks, Case, Evaluation}
pub use Rattle.just_case_reader.specs.Reading.{BadLine, Described, Describes}
pub use Rattle.just_case_reader.specs.View.{case_view, command_reply_view, number_set_view}
pub use Rattle.just_eval.specs.View.{stage_state_of}
pub use Rattle.just_host.specs.Interaction.{Asked, Behaves, Chain, Checked, Event, Noted, Rules, Step, Tree, freely}
pub use Rattle.just_host.specs.Interaction.{unchecked}
pub use Rattle.just_host.specs.Question.{Answer, Blind, CommandOf, ExistsAt, NumberOf, Question, TextOf}
pub use Rattle.just_host.specs.Recorded.{Kept, RecordsAndAsks}
pub use Rattle.just_host.specs.View.{config_view, inner_host, justfile_view, recorded_view, records_view, search_view}
pub use Rattle.just_meaning.specs.Module.{Closing, IsResolvedModule, IsResolvedRun, Module, bound_in, run}
pub use Rattle.just_meaning.specs.Module.{dynamically, lexically}
pub use Rattle.just_meaning.specs.Resolved.{IsResolved, IsResolvedConst}
pub use Rattle.just_meaning.specs.Stage.{Constants, StageState, Staged, at_start}
pub use Rattle.just_meaning.specs.View.{is_referenced_in, ordered_view}
pub use Rattle.just_script.specs.Failing.{PassesOrFails}
pub use Rattle.just_script.specs.Script.{AnswersByScript, Script}
pub use Rattle.just_script.specs.View.{failing_view, script_view}
pub use Rattle.just_script.specs.declared.scripted_host.ScriptedHost.{ScriptedHost}
pub use Rattle.just_syntax.specs.NumberSet.{is_member}
pub use Rattle.just_syntax.specs.Plain.{Assignment, Text, Token}
pub use Rattle.just_syntax.specs.View.{assignment_view, function_view, name_view, pair_view, text_numbered}
pub use Rattle.just_value.specs.Frames.{Bound, Frames, bound_at, bound_innermost, own_frame}
pub use Rattle.just_value.specs.Outcome.{Gave, Outcome, Refused, Stopped, and_then, without_value}
pub use Rattle.just_value.specs.Refusal.{FunctionCall, NoMemory, Refusal}
pub use Rattle.just_value.specs.Shown.{quoted}
pub use Rattle.just_value.specs.Value.{Value}
pub use Rattle.just_value.specs.View.{bindings_left, bound_view, compile_refusal, const_ended, ended, frames_view}
pub use Rattle.just_value.specs.View.{refusal}
pub use Rattle.just_bench.specs.Answer.{AnswersCase, AnswersLines, Evaluated}
pub use Rattle.just_bench.specs.Blocks.{BlocksPrints, BothPrint, BothResolvedPrint, Compared, Extends, FirstRefused}
pub use Rattle.just_bench.specs.Blocks.{Goes, OrderPrints, PrintedBlock, RunResult, SecondRefused, Turn, Turns, Walks}
pub use Rattle.just_bench.specs.Blocks.{agree, agreement_line, block_lines, block_of, blocks_in, end_line, found_by}
pub use Rattle.just_bench.specs.Blocks.{grown, in_order, names_of, next_number, still_coming, turn_between, with_block}
pub use Rattle.just_bench.specs.Blocks.{with_blocks}
pub use Rattle.just_bench.specs.FirstBinding.{first_bound, first_given, without_attributes}
pub use Rattle.just_bench.specs.Hosts.{MadeOf, case_script, script_of, without_answers}
pub use Rattle.just_bench.specs.Laws.{AreLines, HadMemory, OneAnswer}
pub use Rattle.just_bench.specs.Module.{case_module}
pub use Rattle.just_bench.specs.Printed.{binding_lines, const_refusal_line, name_words, open_line, order_line}
pub use Rattle.just_bench.specs.Printed.{question_lines, refusal_line, space_between, value_line, with_newline}
pub use Rattle.just_bench.specs.Run.{CaseRuns, RunPrints, by_script, outcome_lines, recording, status_of}
pub use Rattle.just_bench.specs.Run.{unresolved_line}
pub use Rattle.just_bench.specs.Settled.{ConstPrints, assigned_in, case_constants, const_references, stage_lines}
pub use Rattle.just_bench.specs.Settled.{variable_line}
pub use Rattle.just_bench.specs.Taken.{first_places, referenced_number, taken_in, taken_view}
pub use Rattle.just_bench.specs.View.{found_view, module_run_view, seen, stage_view}
pub use Rattle.just_bench.specs.Written.{Added, AppendsFront, Part, Whole, Written, or_one}
pub use Rattle.just_bench.specs.declared.stream.StreamError.TheVariants.{Failed, OutOfMemory as Wanted}
pub use Rattle.just_bench.specs.declared.stream.TheConstants.{LIMIT}
