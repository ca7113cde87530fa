use Rattle.std.proofs.Common.{IfOk, subst}
use Rattle.just_eval.specs.Prelude.{AreNotInternal, IsResolvedConst, Staged, Survey, at_start, frames_view, refused_view, stage_outcome, stage_state_of}
use Rattle.just_run.specs.Run.{constants_of_referenced}
use Rattle.just_run.proofs.Referenced.{referenced_same}
use Rattle.just_run.proofs.run.Run.survey.Goals as goal

pub returns-clause-headline : goal.returns-clause-headline
returns-clause-headline c =
    let r = c.args.self.now in
    let start = at_start r.module.now.settings.lists (frames_view c.args.outer.now) in
    let same = referenced_same c.as_ref-references.result r.references c.as_ref-references.ensures.value in
    subst (λ referenced. IfOk c.survey_const_assignments.result (λ survey. let m = constants_of_referenced r referenced in
    Survey m start m.assignments.order (refused_view survey.refused.items) (stage_state_of survey.evaluator)))
    same (rw c.deref.ensures.value at c.survey_const_assignments.ensures.headline)

pub returns-clause-stage : goal.returns-clause-stage
returns-clause-stage c =
    let r = c.args.self.now in
    let start = at_start r.module.now.settings.lists (frames_view c.args.outer.now) in
    let same = referenced_same c.as_ref-references.result r.references c.as_ref-references.ensures.value in
    subst (λ referenced. IfOk c.survey_const_assignments.result (λ survey. let m = constants_of_referenced r referenced in
    Staged m start m.assignments.order (stage_outcome (refused_view survey.refused.items) (stage_state_of survey.evaluator))))
    same (rw c.deref.ensures.value at c.survey_const_assignments.ensures.stage)

pub returns-clause-never_internal : goal.returns-clause-never_internal
returns-clause-never_internal c =
    let r = c.args.self.now in
    let outer = frames_view c.args.outer.now in
    let same = referenced_same c.as_ref-references.result r.references c.as_ref-references.ensures.value in
    subst (λ referenced. IfOk c.survey_const_assignments.result (λ survey. IsResolvedConst (constants_of_referenced r referenced).assignments outer
    → AreNotInternal (refused_view survey.refused.items)))
    same (rw c.deref.ensures.value at c.survey_const_assignments.ensures.never_internal)
