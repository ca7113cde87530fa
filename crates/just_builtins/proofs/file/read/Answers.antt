use Rattle.std.proofs.lemmas.Result.{err_from_is_err_and}
use Rattle.std.proofs.Common.{ap, ◌∙◌, Err}
use Rattle.just_host.specs.Question.{Read}
use Rattle.just_builtins.specs.Prelude.{Fails, function_context_view, in_working_directory, not_found, not_read}
use Rattle.just_builtins.proofs.Calls.{asked_text, at_once}
use Rattle.just_builtins.proofs.file.read.Goals as goal

pub returns-in_err-place : goal.returns-in_err-place
returns-in_err-place g c = λ shown. let p = err_from_is_err_and c.from_residual.result c.from_residual.ensures.1 in at_once _ (p.1 ∙ ap Err p.2)

pub returns : goal.returns
returns g c = λ shown.
    asked_text shown _ (Read (in_working_directory (function_context_view c.args.context.now) c.args.path.now)) (Fails (not_read c.args.path.now not_found))
    (not_read c.args.path.now) (not_read c.args.path.now) _ _
    (ap Read (c.deref.ensures ∙ c.in_ok-place.ensures)) c.text-answer.ensures c.contents_answered.ensures
