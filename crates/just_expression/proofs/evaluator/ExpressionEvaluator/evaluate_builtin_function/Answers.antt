use Rattle.just_expression.proofs.evaluator.ExpressionEvaluator.evaluate_builtin_function.Goals as goal

pub returns : goal.returns
returns g c = rw (c.requires.here, ← c.deref.ensures.value) (rw c.function_context-context.ensures at c.call.ensures)
