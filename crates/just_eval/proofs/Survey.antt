-- How const stages that go on after refusals are composed.
use Rattle.std.proofs.Common.{◌≡◌, ℕ, ◌+◌, ◌<◌, Bool, List, [], ◌∷◌, ◌++◌, drop, get_or, length, map, Some, subst, sym}
use Rattle.std.proofs.lemmas.List.{map-append}
use Rattle.just_eval.specs.Prelude.{AreNotInternal, Constants, Frames, Gave, IsResolvedConst, Refusal, Refused, StageState, Staged, Survey, Token, at_start}
use Rattle.just_eval.specs.Prelude.{name_view, opened_for, refused_view, stage_outcome}
use Rattle.just_value.specs.View.{const_eval_refusal}
use Rattle.just_soundness.proofs.ConstInternal.{ready_after_one}
use Rattle.just_soundness.proofs.Ready.{IsReady, ready_start}
use Rattle.just_eval.specs.declared.const_survey.RefusedConstant.{RefusedConstant}
use Rattle.just_eval.specs.Survey.{Finished, Passes, Refuses}
use Rattle.just_eval.proofs.Module.{front}
use Rattle.just_eval.proofs.Stages.{staged_ends, staged_finished, staged_then}

module _ {m : Constants} where
  survey_then : {s mid end : StageState} {left more : List Token} {rs qs : List (Token × Refusal)} → Survey m s left rs mid → Survey m mid more qs end
      → Survey m s (left ++ more) (rs ++ qs) end
  survey_then Finished q = q
  survey_then (Passes h r) q = Passes h (survey_then r q)
  survey_then (Refuses r h s) q = Refuses r h (survey_then s q)

  -- up to its first refusal, a survey is a stage
  pub survey_stage : {s end : StageState} {left : List Token} {rs : List (Token × Refusal)} → Survey m s left rs end
      → Staged m s left (stage_outcome rs end)
  survey_stage Finished = staged_finished _
  survey_stage (Passes h q) = staged_then h (survey_stage q)
  survey_stage (Refuses {left = left} r h q) = staged_ends left (Some r) h

  module _ {X : Type 0} (seen : X → Token) (items : List X) (i : ℕ) (d : X) (fits : i < length items) where
    pub survey_next : {s mid end : StageState} {rs qs : List (Token × Refusal)} → Survey m s (seen (get_or items i d) ∷ []) rs mid
        → Survey m mid (map seen (drop (i + 1) items)) qs end → Survey m s (map seen (drop i items)) (rs ++ qs) end
    survey_next {s = s} {end = end} {rs = rs} {qs = qs} r q =
        subst (λ left. Survey m s left (rs ++ qs) end) (sym (front seen items i d fits)) (survey_then r q)

-- one more refusal is listed
pub more_refused : (rs : List RefusedConstant) (r : RefusedConstant)
    → refused_view (rs ++ r ∷ []) ≡ refused_view rs ++ (name_view r.name, const_eval_refusal r.error) ∷ []
more_refused rs r = map-append (λ r. (name_view r.name, const_eval_refusal r.error)) rs (r ∷ [])

-- ---- resolved stages

module _ (m : Constants) (outer : Frames) (resolved : IsResolvedConst m.assignments outer) where
  -- no refusal of a survey is Internal
  survey_not : {s end : StageState} {left : List Token} {rs : List (Token × Refusal)} → IsReady m outer s left → Survey m s left rs end → AreNotInternal rs
  survey_not ready Finished = tt
  survey_not {s = s} {left = t ∷ left} ready (Passes {mid = mid} h q) = survey_not (ready_after_one m outer resolved s t left ready (Gave mid) h.ends) q
  survey_not {s = s} {left = t ∷ left} ready (Refuses r h q) = let (not, next) = ready_after_one m outer resolved s t left ready (Refused r) h.ends in
      (not, survey_not (subst (λ x. IsReady m outer (opened_for s x) left) (sym ready.named.0.1) next) q)

  pub survey_never_internal : (lists : Bool) (rs : List (Token × Refusal)) (end : StageState) → Survey m (at_start lists outer) m.assignments.order rs end
      → AreNotInternal rs
  survey_never_internal lists rs end r = survey_not (ready_start m lists outer resolved) r
