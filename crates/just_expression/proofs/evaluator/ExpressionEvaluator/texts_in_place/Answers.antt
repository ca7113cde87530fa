use Rattle.just_interaction.proofs.Paths.{runs_gives}
use Rattle.just_expression.proofs.evaluator.ExpressionEvaluator.texts_in_place.Goals as goal

pub returns-in-StringLiteral : goal.returns-in-StringLiteral
returns-in-StringLiteral g c = rw (c.in-StringLiteral.is, c.from_ref.ensures.value) (runs_gives _)
