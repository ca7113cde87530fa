use Rattle.std.proofs.Common.{◌≡◌, ◌∙◌, ◌∷◌, [], ap, sym, Some, string_bytes, option_map}
use Rattle.just_eval.specs.Prelude.{Gave, text_numbered}
use Rattle.just_interaction.proofs.Paths.{runs_done, runs_stopped}
use Rattle.just_expression.proofs.Exits.{runs_exit}
use Rattle.just_eval.proofs.evaluator.Evaluator.assigned_value.Goals as goal

pub returns-in_err-from_text-in-Some : goal.returns-in_err-from_text-in-Some
returns-in_err-from_text-in-Some g c = runs_exit _ _ _ c.from_residual.ensures.1 (runs_stopped _)

pub returns-in_ok-from_text-in-Some : goal.returns-in_ok-from_text-in-Some
returns-in_ok-from_text-in-Some g c =
    let found : text_numbered c.args.overrides.now c.args.assignment.now.number ≡ Some (string_bytes c.in-Some.text.now) =
    sym (ap (option_map string_bytes) c.in-Some.ensures.value) in
    rw found (runs_done _ _ (ap Gave (c.in_ok-from_text-in-Some.ensures ∙ ap (λ text. text ∷ []) c.deref.ensures)))
