use Rattle.std.proofs.lemmas.Result.{err_from_is_err_and}
use Rattle.std.proofs.Common.{ap, ◌∙◌, Err}
use Rattle.just_builtins.specs.Prelude.{Fails, Which, fixed_view, no_executable, working_directory}
use Rattle.just_builtins.proofs.Calls.{asked_text, at_once}
use Rattle.just_builtins.proofs.lookup.require.Goals as goal

pub returns-in_err-working_directory : goal.returns-in_err-working_directory
returns-in_err-working_directory g c = λ shown. let p = err_from_is_err_and c.from_residual.result c.from_residual.ensures.1 in at_once _ (p.1 ∙ ap Err p.2)

pub returns : goal.returns
returns g c = λ shown.
    asked_text shown _ (Which c.args.name.now (working_directory (fixed_view c.args.context.now.execution_context.now))) (Fails (no_executable c.args.name.now))
    (λ text. text) (λ text. text) _ _
    (ap (Which c.args.name.now) (c.deref.ensures ∙ c.in_ok-working_directory.ensures)) c.text-answer.ensures c.require_answered.ensures
