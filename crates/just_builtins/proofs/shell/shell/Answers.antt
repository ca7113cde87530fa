use Rattle.std.proofs.lemmas.Result.{err_from_is_err_and}
use Rattle.just_builtins.proofs.Calls.{at_once}
use Rattle.std.proofs.Common.{ap, ◌∙◌, map, string_bytes, Err}
use Rattle.just_builtins.specs.Prelude.{frames_view, function_context_view}
use Rattle.just_builtins.proofs.Commands.{shell_asked, shell_unasked}
use Rattle.just_builtins.proofs.shell.shell.Goals as goal

pub returns-in_err-further : goal.returns-in_err-further
returns-in_err-further g c = let p = err_from_is_err_and c.from_residual.result c.from_residual.ensures.1 in at_once _ (p.1 ∙ ap Err p.2)

pub returns-then-context : goal.returns-then-context
returns-then-context g c = shell_unasked (frames_view c.args.context.now.scope.now) (function_context_view c.args.context.now) c.args.arguments.now _
    c.requires.some c.if-context.true c.shell_call.ensures

pub returns : goal.returns
returns g c =
    shell_asked (frames_view c.args.context.now.scope.now) (function_context_view c.args.context.now) c.args.arguments.now _ _ _ _ c.requires.some
    c.text_at-command.ensures c.if-context.false (ap (map string_bytes) c.as_slice-words.ensures.value ∙ c.in_ok-further.ensures)
    c.ask_command-answer.ensures.asked c.command_answered.ensures
