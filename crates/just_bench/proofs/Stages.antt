-- The output of a stage before any run.
use Rattle.std.proofs.Common.{◌≡◌, ◌↔◌, ◌++◌, ℕ, Bool, IsTrue, Result, Ok, Err, IfOk, refl, ap, ◌∙◌, append_assoc, subst}
use Rattle.just_bench.specs.Prelude.{Added, Case, ConstPrints, Constants, Frames, IsResolvedConst, Outcome, StageState, Staged, Text, at_start, case_constants}
use Rattle.just_bench.specs.Prelude.{stage_lines, status_of, unresolved_line}

-- the output for a case: whether its stage is resolved, followed by its outcome
stage_printed : (c : Case) (outer : Frames) (m : Constants) (lists resolved : Bool) (o : Outcome StageState) (old between new : Text) (status : ℕ)
    → m ≡ case_constants c → lists ≡ c.lists → IsTrue resolved ↔ IsResolvedConst m.assignments outer →
    Staged m (at_start lists outer) m.assignments.order o → between ≡ old ++ unresolved_line resolved → new ≡ between ++ stage_lines m o → status ≡ status_of o
    → Added old new (λ printed. ConstPrints c outer printed status)
stage_printed c outer m lists resolved o old between new status constants same test staged first second ends = record {
  printed = unresolved_line resolved ++ stage_lines (case_constants c) o;
  after = second ∙ ap (λ m. between ++ stage_lines m o) constants ∙ ap (λ t. t ++ stage_lines (case_constants c) o) first
      ∙ append_assoc old (unresolved_line resolved) (stage_lines (case_constants c) o);
  is = record {
    resolved = resolved;
    test = subst (λ m. IsTrue resolved ↔ IsResolvedConst m.assignments outer) constants test;
    outcome = o;
    staged = subst (λ lists. Staged (case_constants c) (at_start lists outer) c.evaluation_order o) same
        (subst (λ m. Staged m (at_start lists outer) m.assignments.order o) constants staged);
    text = refl;
    ends = ends;
  };
}

-- the same, if there is a status
pub status_printed : {E : Type 0} (r : Result ℕ E) (c : Case) (outer : Frames) (m : Constants) (lists resolved : Bool) (o : Outcome StageState)
    (old between new : Text) → m ≡ case_constants c → lists ≡ c.lists → IsTrue resolved ↔ IsResolvedConst m.assignments outer →
    Staged m (at_start lists outer) m.assignments.order o → between ≡ old ++ unresolved_line resolved → IfOk r (λ _. new ≡ between ++ stage_lines m o)
    → IfOk r (λ status. status ≡ status_of o) → IfOk r (λ status. Added old new (λ printed. ConstPrints c outer printed status))
status_printed (Ok status) c outer m lists resolved o old between new constants same test staged first second ends =
    stage_printed c outer m lists resolved o old between new status constants same test staged first second ends
status_printed (Err e) c outer m lists resolved o old between new constants same test staged first second ends = tt
