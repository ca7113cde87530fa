-- The names that the contracts and proofs of this crate share, passed on from one place. Declares nothing.
pub use Rattle.just_expression.specs.Call.{RefusesWith}
pub use Rattle.just_expression.specs.View.{meaning, program, program_of, rules, rules_in, situation}
pub use Rattle.just_host.specs.Interaction.{AsksOnce, Behaves, GoesByAnswers, Rules, Step, Tree, Verdict, Verdicts}
pub use Rattle.just_host.specs.Interaction.{bind, freely, gives, unchecked}
pub use Rattle.just_host.specs.Question.{command_question}
pub use Rattle.just_host.specs.View.{fixed_view, replied, settings_view}
pub use Rattle.just_meaning.specs.Assignments.{assignment_at}
pub use Rattle.just_meaning.specs.Closings.{lexical}
pub use Rattle.just_meaning.specs.Constant.{constant, constantly}
pub use Rattle.just_meaning.specs.Here.{AllReadable, meanings}
pub use Rattle.just_meaning.specs.Internal.{IfRefused, IsFinal, IsNotInternal}
pub use Rattle.just_meaning.specs.Line.{fragment as fragment_tree, fragment_text, line, line as line_tree}
pub use Rattle.just_meaning.specs.Line.{line_expressions, string}
pub use Rattle.just_meaning.specs.Meaning.{Situation, eval}
pub use Rattle.just_meaning.specs.Messages.{unknown_assignment_text}
pub use Rattle.just_meaning.specs.Module.{Closing, IsResolvedRun, Module, assigned, bound_of, dynamically}
pub use Rattle.just_meaning.specs.Module.{lexically, or_override, run, turn}
pub use Rattle.just_meaning.specs.Parameters.{Arguments, HaveOneElement, Meanings, bindings, checked, environment}
pub use Rattle.just_meaning.specs.Parameters.{judged, none_or_refused, parameter_bound, parameters, repeated, seeing}
pub use Rattle.just_meaning.specs.Parameters.{valued, with_variable, words_of}
pub use Rattle.just_meaning.specs.Resolved.{AllKnown, HasValue, IsResolvedConst}
pub use Rattle.just_meaning.specs.ResolvedOn.{AllResolvedOn, IsResolvedOn, interpreter_expressions, set_expressions}
pub use Rattle.just_meaning.specs.ResolvedOn.{setting_expressions}
pub use Rattle.just_meaning.specs.Settings.{elements, interpreter, kept, settings, text_in, with_setting}
pub use Rattle.just_meaning.specs.Stage.{Constants, StageState, Staged, at_start, const_meaning, const_value, with_open}
pub use Rattle.just_meaning.specs.View.{IsResolvedWith, constants_of, functions_view, is_referenced_in, module_view}
pub use Rattle.just_meaning.specs.View.{program_view, recipe_in, run_of}
pub use Rattle.just_syntax.specs.Keyed.{value_at}
pub use Rattle.just_syntax.specs.Lists.{IsIn}
pub use Rattle.just_syntax.specs.Plain.{Assignment, Expr, Parameter, Recipe, Text, Token}
pub use Rattle.just_syntax.specs.View.{assignment_view, expression_interpreter_view, fragment_view, interpreter_view}
pub use Rattle.just_syntax.specs.View.{line_view, name_view, named_attribute_view, pairs_view, recipe_parameter_view}
pub use Rattle.just_syntax.specs.View.{recipe_view, set_view, setting_view, string_context_view, text_numbered, view}
pub use Rattle.just_value.specs.ConstEval.{IsConstEval}
pub use Rattle.just_value.specs.ConstRefusal.{ConstRefusal}
pub use Rattle.just_value.specs.Frames.{Bound, Frames, bound_innermost, innermost, own_frame, value_in}
pub use Rattle.just_value.specs.Outcome.{Gave, Outcome, Refused, Stopped, UnlessStopped, and_then, without_value}
pub use Rattle.just_value.specs.Refusal.{Const, Internal, Refusal}
pub use Rattle.just_value.specs.Value.{Value}
pub use Rattle.just_value.specs.View.{HasOwnToken, bound_view, compile_refusal, const_ended, ended, frames_view}
pub use Rattle.just_value.specs.View.{refusal}
pub use Rattle.just_eval.specs.Check.{GivesVerdict, IsJudged, verdict_view}
pub use Rattle.just_eval.specs.Commands.{commands, commands_of, ends_with_backslash, is_continued, is_continued_by}
pub use Rattle.just_eval.specs.Commands.{lines_expressions, unjoined, with_further_line, without_backslash}
pub use Rattle.just_eval.specs.Joined.{joined_view, texts_view}
pub use Rattle.just_eval.specs.Steps.{IsNext, ReachedFrames, frames_of, module_of, outer_of}
pub use Rattle.just_eval.specs.Survey.{AreNotInternal, Survey, opened_for, refused_view, stage_outcome}
pub use Rattle.just_eval.specs.View.{Assigned, IsAtStart, IsBound, IsConst, IsInRun, IsResolvedIn, IsSameButScope}
pub use Rattle.just_eval.specs.View.{IsSameButScopeAndEnvironment, MayCall, MayCallIn, OpensOrEnds, Resolves, WasBound}
pub use Rattle.just_eval.specs.View.{arguments_view, below_of, calls_left_in, calls_left_of, dynamic_meaning}
pub use Rattle.just_eval.specs.View.{dynamic_meanings, exports_all, here, lexical_meaning, recipe_start, rules_of}
pub use Rattle.just_eval.specs.View.{situation_of, stage_state_of, with_limit}
