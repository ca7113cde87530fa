use Rattle.just_interaction.proofs.Paths.{runs_note, runs_shut}
use Rattle.std.proofs.Common.{refl}
use Rattle.just_expression.proofs.evaluator.ExpressionEvaluator.evaluate_backtick.Goals as goal

pub returns-in-Some : goal.returns-in-Some
returns-in-Some g c = rw c.in-Some.is (runs_note refl c.command_value.ensures)

pub returns-in-None : goal.returns-in-None
returns-in-None g c = rw c.in-None.is (runs_shut refl)
