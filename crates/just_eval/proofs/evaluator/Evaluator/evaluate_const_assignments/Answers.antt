use Rattle.std.proofs.Common.{◌∙◌, map, subst}
use Rattle.std.proofs.lemmas.List.{drop_all}
use Rattle.just_eval.specs.Prelude.{Staged, constants_of, name_view}
use Rattle.just_soundness.proofs.ConstInternal.{resolved_stage_is_never_internal}
use Rattle.just_eval.proofs.Assigned.{stage_state_start}
use Rattle.just_eval.proofs.Stages.{staged_exit, staged_finished, staged_last, staged_next, staged_stops}
use Rattle.just_eval.proofs.evaluator.Evaluator.evaluate_const_assignments.Goals as goal

pub returns-in_err-child-clause-headline : goal.returns-in_err-child-clause-headline
returns-in_err-child-clause-headline c = staged_exit _ _ _ c.from_residual.ensures.1 (staged_stops _ _)

pub loop-name-init : goal.loop-name-init
loop-name-init c =
    let made = c.of_assignments-evaluator.ensures in
    record {
      before = record { start = made.start; context = made.context };
      rest = λ o r. subst (λ s. Staged (constants_of c.args.assignments.now c.args.evaluation_order.now c.args.overrides.now c.args.variable_references) s
          (map name_view c.args.evaluation_order.now) o)
          (stage_state_start c.of_assignments-evaluator.result c.args.lists _ made.lists (made.frames ∙ c.in_ok-child.ensures) made.none_open) r;
    }

pub returns-in_err-evaluate_const_named-clause-headline :
    goal.returns-in_err-evaluate_const_named-clause-headline
returns-in_err-evaluate_const_named-clause-headline c =
    staged_exit _ _ _ c.from_residual-in_err-evaluate_const_named.ensures.1 (c.loop-name.invariant.rest _
    (staged_last name_view c.args.evaluation_order.now c.loop-name.name-index _ c.loop-name-test.true _
    (c.in_err-evaluate_const_named.ensures.staged c.args.evaluation_order.now)))

pub returns-in_err-evaluate_const_named-clause-never_internal :
    goal.returns-in_err-evaluate_const_named-clause-never_internal
returns-in_err-evaluate_const_named-clause-never_internal c = λ resolved.
    resolved_stage_is_never_internal _ _ _ _ resolved (returns-in_err-evaluate_const_named-clause-headline c)

pub loop-name-preserved : goal.loop-name-preserved
loop-name-preserved c = record {
  before = c.in_ok-evaluate_const_named.ensures.same;
  rest = λ o r. c.loop-name.invariant.rest o
      (staged_next name_view c.args.evaluation_order.now c.loop-name.name-index _ c.loop-name-test.true
      (c.in_ok-evaluate_const_named.ensures.staged c.args.evaluation_order.now) r);
}

pub returns-clause-headline : goal.returns-clause-headline
returns-clause-headline c =
    c.loop-name.invariant.rest _ (rw (drop_all c.loop-name.name-index c.args.evaluation_order.now c.loop-name-test.false) (staged_finished _))
