use Rattle.std.proofs.Common.{◌∙◌, ap, sym}
use Rattle.just_interaction.proofs.Paths.{runs_done, runs_ends, runs_on}
use Rattle.just_expression.proofs.Exits.{runs_exit}
use Rattle.just_eval.specs.Prelude.{Gave, ended}
use Rattle.just_eval.proofs.Constants.{unless_is}
use Rattle.just_eval.proofs.evaluator.Evaluator.evaluate_string_by_dynamic_scoping.Goals as goal

pub returns-in_err-value : goal.returns-in_err-value
returns-in_err-value g c = runs_exit _ _ _ c.from_residual.ensures.1 (runs_ends _ _ _ c.in_err-value.ensures)

pub returns-in_err-text : goal.returns-in_err-text
returns-in_err-text g c =
    let refused = sym (ap (ended (λ text. text)) c.in_err-text.was) ∙ c.one_text.ensures in
    runs_exit _ _ _ c.from_residual-in_err-text.ensures.1 (runs_on _ _ c.in_ok-value.ensures (runs_done _ _ (unless_is _ _ refused)))

pub returns-in_err-into_string : goal.returns-in_err-into_string
returns-in_err-into_string g c = runs_exit _ _ _ c.from_residual-in_err-into_string.ensures.1 (runs_on _ _ c.in_ok-value.ensures (runs_done _ _ tt))

pub returns : goal.returns
returns g c =
    let gave = ap Gave c.in_ok-into_string.ensures ∙ (sym (ap (ended (λ text. text)) c.in_ok-text.was) ∙ c.one_text.ensures) in
    runs_on _ _ c.in_ok-value.ensures (runs_done _ _ (unless_is _ _ gave))
