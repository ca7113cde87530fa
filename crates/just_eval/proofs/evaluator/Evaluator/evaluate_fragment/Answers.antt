use Rattle.std.proofs.Common.{ap, ◌∙◌}
use Rattle.just_eval.specs.Prelude.{Gave, fragment_text}
use Rattle.just_interaction.proofs.Paths.{runs_done, runs_ends, runs_on, runs_stopped}
use Rattle.just_expression.proofs.Exits.{runs_exit}
use Rattle.just_eval.proofs.evaluator.Evaluator.evaluate_fragment.Goals as goal

pub returns-in_err-fragment_text-in-Text : goal.returns-in_err-fragment_text-in-Text
returns-in_err-fragment_text-in-Text g c = runs_exit _ _ _ c.from_residual.ensures.1 (runs_stopped _)

pub returns-in_ok-fragment_text-in-Text : goal.returns-in_ok-fragment_text-in-Text
returns-in_ok-fragment_text-in-Text g c =
    rw c.in-Text.is
    (runs_done _ _ (ap Gave (c.in_ok-fragment_text-in-Text.ensures ∙ ap (λ lexeme. fragment_text c.args.continues lexeme.now) c.lexeme.ensures)))

pub returns-in_err-value-in-Interpolation : goal.returns-in_err-value-in-Interpolation
returns-in_err-value-in-Interpolation g c =
    rw c.in-Interpolation.is (runs_exit _ _ _ c.from_residual-in_err-value-in-Interpolation.ensures.1 (runs_ends _ _ _ c.in_err-value-in-Interpolation.ensures))

pub returns-in_err-join-in-Interpolation : goal.returns-in_err-join-in-Interpolation
returns-in_err-join-in-Interpolation g c =
    runs_exit _ _ _ c.from_residual-in_err-join-in-Interpolation.ensures.1
    (rw c.in-Interpolation.is (runs_on _ _ c.in_ok-value-in-Interpolation.ensures (runs_stopped _)))

pub returns-in_ok-join-in-Interpolation : goal.returns-in_ok-join-in-Interpolation
returns-in_ok-join-in-Interpolation g c =
    rw c.in-Interpolation.is (runs_on _ _ c.in_ok-value-in-Interpolation.ensures (runs_done _ _ (ap Gave c.in_ok-join-in-Interpolation.ensures)))
