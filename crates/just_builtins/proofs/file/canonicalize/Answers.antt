use Rattle.std.proofs.lemmas.Result.{err_from_is_err_and}
use Rattle.std.proofs.Common.{ap, ◌∙◌, Err}
use Rattle.just_host.specs.Question.{Canonicalize}
use Rattle.just_builtins.specs.Prelude.{Fails, canonical_not_unicode, function_context_view, in_working_directory, not_canonicalized, not_found}
use Rattle.just_builtins.proofs.Calls.{asked_text, at_once}
use Rattle.just_builtins.proofs.file.canonicalize.Goals as goal

pub returns-in_err-place : goal.returns-in_err-place
returns-in_err-place g c = λ shown. let p = err_from_is_err_and c.from_residual.result c.from_residual.ensures.1 in at_once _ (p.1 ∙ ap Err p.2)

pub returns : goal.returns
returns g c = λ shown.
    asked_text shown _ (Canonicalize (in_working_directory (function_context_view c.args.context.now) c.args.path.now))
    (Fails (not_canonicalized c.args.path.now not_found)) canonical_not_unicode (not_canonicalized c.args.path.now) _ _
    (ap Canonicalize (c.deref.ensures ∙ c.in_ok-place.ensures)) c.text-answer.ensures c.canonical_answered.ensures
