use Rattle.just_eval.specs.Prelude.{stage_state_of, view}
use Rattle.just_eval.proofs.Constants.{few_ended}
use Rattle.just_eval.proofs.Here.{constant_few, constant_is, constant_resolved}
use Rattle.just_eval.proofs.evaluator.Evaluator.constant_value.Goals as goal

pub returns-clause-constants : goal.returns-clause-constants
returns-clause-constants c =
    constant_is (stage_state_of c.args.self.now) (view c.args.expression.now)
    (rw (c.constant_evaluator.ensures.rules, c.constant_evaluator.ensures.meaning (view c.args.expression.now)) at c.evaluate_value.ensures)

pub returns-clause-few : goal.returns-clause-few
returns-clause-few c = few_ended _
    (constant_few (stage_state_of c.args.self.now) (view c.args.expression.now)
    (rw (c.constant_evaluator.ensures.rules, c.constant_evaluator.ensures.meaning (view c.args.expression.now)) at c.evaluate_value.ensures))

pub returns-clause-resolved_constants : goal.returns-clause-resolved_constants
returns-clause-resolved_constants c =
    constant_resolved (stage_state_of c.args.self.now) (view c.args.expression.now)
    (rw (c.constant_evaluator.ensures.rules, c.constant_evaluator.ensures.meaning (view c.args.expression.now)) at c.evaluate_value.ensures)
