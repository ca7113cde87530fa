use Rattle.std.proofs.Common.{map, ap, ◌∙◌}
use Rattle.std.specs.Slice.Iter.{iter_rest}
use Rattle.just_eval.specs.Prelude.{named_attribute_view}
use Rattle.just_expression.proofs.Exits.{runs_exit}
use Rattle.just_eval.proofs.Attributes.{attribute_next, attribute_stops, attributes_all, attributes_start, key_ends, left_env, left_none, left_other}
use Rattle.just_eval.proofs.Attributes.{other_next, value_ends}
use Rattle.just_eval.proofs.Same.{same_on, same_may_call}
use Rattle.just_eval.proofs.evaluator.Evaluator.evaluate_attributes.Goals as goal

pub loop-attribute-init : goal.loop-attribute-init
loop-attribute-init g c =
    attributes_start (ap (λ i. map named_attribute_view (iter_rest i)) c.into_iter-attribute-iterator.ensures.into_iter_gives ∙ c.iter-attribute-items.ensures)

pub evaluate_string_by_dynamic_scoping-requires : goal.evaluate_string_by_dynamic_scoping-requires
evaluate_string_by_dynamic_scoping-requires g c =
    record { may_call = same_may_call c.args.self.now c.loop-attribute.self c.loop-attribute.invariant.same c.requires.may_call }

pub returns-in_err-key-clause-same : goal.returns-in_err-key-clause-same
returns-in_err-key-clause-same g c = (c.loop-attribute.invariant.same, c.loop-attribute.invariant.scope)

pub returns-in_err-key-clause-environment : goal.returns-in_err-key-clause-environment
returns-in_err-key-clause-environment g c =
    let is = left_env _ _ _ c.in-Env.key c.in-Env.value c.in-Some.ensures.steps c.in-Env.is in
    runs_exit _ _ _ c.from_residual.ensures.1 (key_ends c.loop-attribute.invariant is _ c.in_err-key.ensures)

pub evaluate_expression-requires : goal.evaluate_expression-requires
evaluate_expression-requires g c = record { may_call = same_may_call c.args.self.now c.loop-attribute.self c.loop-attribute.invariant.same c.requires.may_call }

pub returns-in_err-value-clause-same : goal.returns-in_err-value-clause-same
returns-in_err-value-clause-same g c = (c.loop-attribute.invariant.same, c.loop-attribute.invariant.scope)

pub returns-in_err-value-clause-environment : goal.returns-in_err-value-clause-environment
returns-in_err-value-clause-environment g c =
    let is = left_env _ _ _ c.in-Env.key c.in-Env.value c.in-Some.ensures.steps c.in-Env.is in
    runs_exit _ _ _ c.from_residual-in_err-value.ensures.1 (value_ends c.loop-attribute.invariant is c.in_ok-key.ensures _ c.in_err-value.ensures)

pub loop-attribute-preserved-in-Continue-branch-3 : goal.loop-attribute-preserved-in-Continue-branch-3
loop-attribute-preserved-in-Continue-branch-3 g c =
    let is = left_env _ _ _ c.in-Env.key c.in-Env.value c.in-Some.ensures.steps c.in-Env.is in
    let now = c.in_ok-set_variable.ensures in
    attribute_next c.loop-attribute.invariant is c.in_ok-key.ensures c.in_ok-value.ensures now.same.0 now.same.1 now.set

pub returns-in_err-set_variable-clause-same : goal.returns-in_err-set_variable-clause-same
returns-in_err-set_variable-clause-same g c = (
  same_on c.args.self.now c.loop-attribute.self c.set_variable.new.self c.loop-attribute.invariant.same c.in_err-set_variable.ensures.same.0,
  c.in_err-set_variable.ensures.same.1 ∙ c.loop-attribute.invariant.scope,
)

pub returns-in_err-set_variable-clause-environment : goal.returns-in_err-set_variable-clause-environment
returns-in_err-set_variable-clause-environment g c =
    let is = left_env _ _ _ c.in-Env.key c.in-Env.value c.in-Some.ensures.steps c.in-Env.is in
    runs_exit _ _ _ c.from_residual-in_err-set_variable.ensures.1 (attribute_stops c.loop-attribute.invariant is c.in_ok-key.ensures c.in_ok-value.ensures)

pub loop-attribute-preserved : goal.loop-attribute-preserved
loop-attribute-preserved g c = other_next c.loop-attribute.invariant (left_other _ _ _ c.in-Some.ensures.steps c.in_default.not-Env)

pub returns-clause-same : goal.returns-clause-same
returns-clause-same g c = (c.loop-attribute.invariant.same, c.loop-attribute.invariant.scope)

pub returns-clause-environment : goal.returns-clause-environment
returns-clause-environment g c = attributes_all c.loop-attribute.invariant (left_none _ c.in-None.ensures.steps.0)
