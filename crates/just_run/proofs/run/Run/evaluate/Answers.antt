use Rattle.std.proofs.Common.{[], ◌∷◌, subst}
use Rattle.just_eval.specs.Prelude.{Behaves, IsNotInternal, IsResolvedRun, dynamically, ended, frames_view, freely, lexically, run, unchecked}
use Rattle.just_run.specs.Run.{run_of_referenced}
use Rattle.just_run.proofs.Referenced.{referenced_same}
use Rattle.just_run.proofs.run.Run.evaluate.Goals as goal

pub returns-clause-headline : goal.returns-clause-headline
returns-clause-headline g c =
    let frames = frames_view c.args.outer.now in
    let r = c.args.self.now in
    let same = referenced_same c.as_ref.result r.references c.as_ref.ensures.value in
    subst (λ referenced. IsResolvedRun (run_of_referenced r referenced) frames
    → Behaves freely g.H.Host.step unchecked c.args.host.now
    (run lexically (run_of_referenced r referenced) ([] ∷ frames) (run_of_referenced r referenced).assignments.order)
    (ended frames_view c.evaluate_assignments.result) c.evaluate_assignments.new.host)
    same c.evaluate_assignments.ensures.headline

pub returns-clause-never_internal : goal.returns-clause-never_internal
returns-clause-never_internal g c =
    let r = c.args.self.now in
    let same = referenced_same c.as_ref.result r.references c.as_ref.ensures.value in
    subst (λ referenced. IsResolvedRun (run_of_referenced r referenced) (frames_view c.args.outer.now)
    → IsNotInternal (ended frames_view c.evaluate_assignments.result)) same c.evaluate_assignments.ensures.never_internal

pub returns-clause-dynamic : goal.returns-clause-dynamic
returns-clause-dynamic g c =
    let frames = frames_view c.args.outer.now in
    let r = c.args.self.now in
    let same = referenced_same c.as_ref.result r.references c.as_ref.ensures.value in
    subst (λ referenced. Behaves freely g.H.Host.step unchecked c.args.host.now
    (run dynamically (run_of_referenced r referenced) ([] ∷ frames) (run_of_referenced r referenced).assignments.order)
    (ended frames_view c.evaluate_assignments.result) c.evaluate_assignments.new.host)
    same c.evaluate_assignments.ensures.dynamic
