use Rattle.just_interaction.proofs.Paths.{runs_done, runs_note, runs_shut}
use Rattle.just_expression.specs.Prelude.{context_of, is_non_const, name_view}
use Rattle.just_expression.proofs.Leaves.{reads, said, shuts}
use Rattle.just_expression.proofs.evaluator.ExpressionEvaluator.evaluate_variable.Goals as goal

pub returns-in_default : goal.returns-in_default
returns-in_default g c = rw c.in_default.is (runs_done _ _ (said _ _ _ c.error_at.ensures))

pub returns-then-is_open : goal.returns-then-is_open
returns-then-is_open g c =
    rw c.in-Some.is (runs_shut (shuts (context_of c.args.self.now) (is_non_const c.args.self.now) (name_view c.args.name.now) c.in-Some.number cc))

pub returns : goal.returns
returns g c = rw c.in-Some.is (runs_note (reads (context_of c.args.self.now) (is_non_const c.args.self.now) (name_view c.args.name.now) c.in-Some.number cc)
    (runs_done _ _ c.value_of.ensures))
