-- How const stages are composed.
use Rattle.std.proofs.Common.{◌≡◌, ℕ, ◌+◌, ◌<◌, true, false, not, List, [], ◌∷◌, ◌++◌, Option, Some, None, Result, Ok, Err, IsErrAnd, map, drop, get_or, length}
use Rattle.std.proofs.Common.{refl, sym, ap, ◌∙◌, subst}
use Rattle.std.proofs.Math.Bool.{and-false}
use Rattle.std.specs.Option.{is_some}
use Rattle.just_eval.specs.Prelude.{Assignment, Bound, Const, ConstRefusal, Constants, Gave, Internal, IsFinal, Outcome, Refusal, Refused, RefusesWith}
use Rattle.just_eval.specs.Prelude.{StageState, Staged, Stopped, Token, UnlessStopped, Value, and_then, assignment_at, bound_of, compile_refusal}
use Rattle.just_eval.specs.Prelude.{const_ended, innermost, unknown_assignment_text, with_open, without_value}
use Rattle.just_value.specs.declared.compile_error.CompileError.{CompileError}
use Rattle.just_meaning.specs.Stage.{after_assignment, after_outcome, const_assigned, stage, with_settled}
use Rattle.just_soundness.proofs.Ready.{IsDue}
use Rattle.just_eval.proofs.Module.{front}

-- a stage continues from its standing
stage_append : (m : Constants) (s : StageState) (left more : List Token) → stage m s (left ++ more) ≡ and_then (stage m s left) (λ mid. stage m mid more)
stage_append m s [] more = refl
stage_append m s (t ∷ left) more = elim (after_assignment m s t (assignment_at m.assignments t.lexeme)) as
    (λ o. and_then o (λ next. stage m next (left ++ more)) ≡ and_then (and_then o (λ next. stage m next left)) (λ mid. stage m mid more))
    [ Gave next ↦ stage_append m next left more | Refused r ↦ refl | Stopped ↦ refl ]

module _ {m : Constants} where
  pub staged_then : {s mid : StageState} {left more : List Token} {o : Outcome StageState} → Staged m s left (Gave mid) → Staged m mid more o
      → Staged m s (left ++ more) o
  staged_then {s = s} {left = left} {more = more} {o = o} r q = record {
    ends = subst (UnlessStopped o) (ap (λ w. and_then w (λ mid. stage m mid more)) r.ends ∙ sym (stage_append m s left more)) q.ends;
  }

  pub staged_finished : (s : StageState) → Staged m s [] (Gave s)
  staged_finished s = record { ends = refl }

  pub staged_stops : (s : StageState) (left : List Token) → Staged m s left Stopped
  staged_stops s left = record { ends = tt }

  -- a stage that ended is also a stage of more assignments, with its outcome
  pub staged_ends : {s : StageState} {left : List Token} (more : List Token) (e : Option Refusal) → Staged m s left (without_value e)
      → Staged m s (left ++ more) (without_value e)
  staged_ends {s = s} {left = left} more (Some r) q =
      record { ends = ap (λ w. and_then w (λ mid. stage m mid more)) q.ends ∙ sym (stage_append m s left more) }
  staged_ends more None q = record { ends = tt }

  -- the exit of a `?`
  pub staged_exit : {X : Type 0} {s : StageState} {left : List Token} (f : X → StageState) (r : Result X CompileError) (e : CompileError)
      → IsErrAnd r (λ d. d ≡ e) → Staged m s left (without_value (compile_refusal e)) → Staged m s left (const_ended f r)
  staged_exit f (Ok x) e is h = absurd is
  staged_exit f (Err d) e is h = rw is h

  -- ---- one name

  module _ (s : StageState) (t : Token) where
    pub staged_unknown : (r : Option Refusal) → assignment_at m.assignments t.lexeme ≡ None → RefusesWith r (Internal (unknown_assignment_text t.lexeme) t)
        → Staged m s (t ∷ []) (without_value r)
    staged_unknown None f is = record { ends = tt }
    staged_unknown (Some r) f is = record { ends = rw (is, f) refl }

    module _ (a : Assignment) (found : assignment_at m.assignments t.lexeme ≡ Some a) where
      pub staged_passes : m.assignments.referenced a.number ≡ false → Staged m s (t ∷ []) (Gave s)
      staged_passes e = record { ends = rw (found, e) refl }

      module _ (referenced : m.assignments.referenced a.number ≡ true) where
        pub staged_open : s.is_open a.number ≡ true → Staged m s (t ∷ []) (Gave s)
        staged_open e = record { ends = rw (found, referenced, e, and-false (not (is_some (innermost a.number s.frames)))) refl }

        pub staged_skips : (b : Bound) → innermost a.number s.frames ≡ Some b → Staged m s (t ∷ []) (Gave s)
        staged_skips b e = record { ends = rw (found, referenced, e) refl }

    module _ (a : Assignment) (new : IsDue m s t a) where
      pub staged_settles : (v : Value) → const_assigned m s a ≡ Gave v → Staged m s (t ∷ []) (Gave (with_settled s (bound_of false a v)))
      staged_settles v e = record { ends = rw (new.found, new.referenced, new.unbound, new.unopened, e) refl }

      pub staged_opens : (c : ConstRefusal) → const_assigned m s a ≡ Refused (Const c) → Staged m s (t ∷ []) (Gave (with_open s a.number))
      staged_opens c e = record { ends = rw (new.found, new.referenced, new.unbound, new.unopened, e) refl }

      pub staged_breaks : (r : Refusal) → IsFinal r → const_assigned m s a ≡ Refused r → Staged m s (t ∷ []) (Refused r)
      staged_breaks r final e = record { ends = rw (new.found, new.referenced, new.unbound, new.unopened, e) (ends r final) }
        where
          ends : (r : Refusal) → IsFinal r → Refused r ≡ and_then (after_outcome s a (Refused r)) (λ next. Gave next)
          ends (Const c) final = absurd final
          ends _ final = refl

  -- ---- one name after another

  module _ {X : Type 0} (seen : X → Token) (items : List X) (i : ℕ) (d : X) (fits : i < length items) where
    pub staged_next : {s mid : StageState} {o : Outcome StageState} → Staged m s (seen (get_or items i d) ∷ []) (Gave mid)
        → Staged m mid (map seen (drop (i + 1) items)) o → Staged m s (map seen (drop i items)) o
    staged_next {s = s} {o = o} r q = subst (λ left. Staged m s left o) (sym (front seen items i d fits)) (staged_then r q)

    pub staged_last : {s : StageState} (e : Option Refusal) → Staged m s (seen (get_or items i d) ∷ []) (without_value e)
        → Staged m s (map seen (drop i items)) (without_value e)
    staged_last {s = s} e r =
        subst (λ left. Staged m s left (without_value e)) (sym (front seen items i d fits)) (staged_ends (map seen (drop (i + 1) items)) e r)
