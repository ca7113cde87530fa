use Rattle.std.proofs.Common.{[], ◌∷◌, ℕ, Bool, ap₂, subst}
use Rattle.just_bench.specs.Prelude.{Behaves, IsResolvedRun, Module, dynamically, ended, frames_view, freely, lexically, module_run_view, run, unchecked}
use Rattle.just_bench.specs.declared.module_run.ModuleRun.{ModuleRun}
use Rattle.just_bench.proofs.References.{same_references}
use Rattle.just_bench.proofs.module_run.ModuleRun.evaluate.Goals as goal

-- the inputs of a run, but for what is referenced and for the limit
abbrev run_with : ModuleRun → (ℕ → Bool) → ℕ → Module
run_with r referenced limit =
    let m = module_run_view r in
    record m { assignments = record m.assignments { referenced = referenced }; limit = limit }

pub returns-clause-headline : goal.returns-clause-headline
returns-clause-headline g c =
    let r = c.args.self.now in
    let outer = frames_view c.args.parent.now in
    subst (λ (m : Module). IsResolvedRun m outer
    → Behaves freely g.H.Host.step unchecked c.args.host.now (run lexically m ([] ∷ outer) m.assignments.order)
    (ended frames_view c.evaluate_assignments.result) c.evaluate_assignments.new.host)
    (ap₂ (run_with r) (same_references c.as_ref.result r.references c.as_ref.ensures.value) c.max.ensures) c.evaluate_assignments.ensures.headline

pub returns-clause-dynamic : goal.returns-clause-dynamic
returns-clause-dynamic g c =
    let r = c.args.self.now in
    subst (λ (m : Module). Behaves freely g.H.Host.step unchecked c.args.host.now (run dynamically m ([] ∷ frames_view c.args.parent.now) m.assignments.order)
    (ended frames_view c.evaluate_assignments.result) c.evaluate_assignments.new.host)
    (ap₂ (run_with r) (same_references c.as_ref.result r.references c.as_ref.ensures.value) c.max.ensures) c.evaluate_assignments.ensures.dynamic
