use Rattle.std.proofs.Common.{◌∙◌, [], ◌++◌, ap, append_assoc, append-nil, map, subst, sym}
use Rattle.std.proofs.lemmas.List.{drop_all}
use Rattle.just_eval.specs.Prelude.{Survey, at_start, constants_of, frames_view, name_view, refused_view, stage_state_of}
use Rattle.just_eval.specs.Survey.{Finished}
use Rattle.just_eval.proofs.Assigned.{stage_state_start}
use Rattle.just_eval.proofs.Survey.{survey_never_internal, survey_next, survey_stage}
use Rattle.just_eval.proofs.evaluator.Evaluator.survey_const_assignments.Goals as goal

pub loop-name-init : goal.loop-name-init
loop-name-init c =
    let made = c.of_assignments-evaluator.ensures in
    let m = constants_of c.args.assignments.now c.args.evaluation_order.now c.args.overrides.now c.args.variable_references in
    record {
      before = record { start = made.start; context = made.context };
      rest = λ rs end r. rw c.new-refused.ensures.items (subst (λ s. Survey m s (map name_view c.args.evaluation_order.now) rs end)
          (stage_state_start c.of_assignments-evaluator.result c.args.lists _ made.lists (made.frames ∙ c.in_ok-child.ensures) made.none_open) r);
    }

pub loop-name-preserved : goal.loop-name-preserved
loop-name-preserved c =
    let found = c.in_ok-survey_named.ensures.found c.args.evaluation_order.now in
    let m = constants_of c.args.assignments.now c.args.evaluation_order.now c.args.overrides.now c.args.variable_references in
    let start = at_start c.args.lists (frames_view c.args.scope.now) in
    record {
      before = c.in_ok-survey_named.ensures.same;
      rest = λ rs end r. subst (λ qs. Survey m start (map name_view c.args.evaluation_order.now) qs end)
          (sym (append_assoc (refused_view c.loop-name.refused.items) found.0 rs) ∙ ap (λ qs. qs ++ rs) (sym found.2))
          (c.loop-name.invariant.rest _ end (survey_next name_view c.args.evaluation_order.now c.loop-name.name-index _ c.loop-name-test.true found.1 r));
    }

pub returns-clause-headline : goal.returns-clause-headline
returns-clause-headline c =
    let m = constants_of c.args.assignments.now c.args.evaluation_order.now c.args.overrides.now c.args.variable_references in
    let end = stage_state_of c.loop-name.evaluator in
    subst (λ qs. Survey m (at_start c.args.lists (frames_view c.args.scope.now)) (map name_view c.args.evaluation_order.now) qs end)
    (append-nil (refused_view c.loop-name.refused.items))
    (c.loop-name.invariant.rest [] end (rw (drop_all c.loop-name.name-index c.args.evaluation_order.now c.loop-name-test.false) Finished))

pub returns-clause-stage : goal.returns-clause-stage
returns-clause-stage c = survey_stage (returns-clause-headline c)

pub returns-clause-never_internal : goal.returns-clause-never_internal
returns-clause-never_internal c = λ resolved.
    survey_never_internal _ _ resolved c.args.lists (refused_view c.loop-name.refused.items) (stage_state_of c.loop-name.evaluator)
    (returns-clause-headline c)
