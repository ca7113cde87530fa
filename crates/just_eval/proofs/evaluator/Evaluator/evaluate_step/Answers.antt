use Rattle.just_eval.specs.Prelude.{frames_view, name_view}
use Rattle.just_interaction.proofs.Paths.{runs_stopped}
use Rattle.just_expression.proofs.Exits.{runs_exit}
use Rattle.just_eval.proofs.Stepwise.{turn_in}
use Rattle.just_eval.proofs.evaluator.Evaluator.evaluate_step.Goals as goal

pub returns-in_err-child-clause-ran : goal.returns-in_err-child-clause-ran
returns-in_err-child-clause-ran g c = runs_exit _ _ _ c.from_residual.ensures.1 (runs_stopped _)

pub returns-clause-ran : goal.returns-clause-ran
returns-clause-ran g c =
    turn_in c.args.context.now _ c.args.references (frames_view c.args.scope.now) (name_view c.args.name.now) c.with_some_limit-context.ensures
    (rw (c.of_assignments-evaluator.ensures.frames, c.replace-own.ensures.value) at c.evaluate_named-result.ensures.ran)
