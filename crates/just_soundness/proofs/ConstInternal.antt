-- Progress of const stages: a resolved stage meets no refusal that is Internal.
use Rattle.std.proofs.Common.{◌≡◌, inl, inr, ◌⊎◌, ℕ, Bool, true, false, List, [], ◌∷◌, map, Some, None, if◌then◌else◌, refl, sym, subst, ◌∙◌}
use Rattle.just_syntax.specs.Plain.{Token, Assignment, Expr}
use Rattle.just_syntax.proofs.Tables.{found_is}
use Rattle.just_value.specs.Value.{Names, Value}
use Rattle.just_value.specs.Frames.{Frames, value_in}
use Rattle.just_value.specs.Refusal.{Refusal, Const}
use Rattle.just_value.specs.Outcome.{Outcome, Gave, Refused, Stopped, and_then}
use Rattle.just_host.specs.Interaction.{Note, done}
use Rattle.just_meaning.specs.Assignments.{assignment_at}
use Rattle.just_meaning.specs.Constant.{constantly, nowhere}
use Rattle.just_meaning.specs.Internal.{IfRefused, IsInternal, IsNotInternal}
use Rattle.just_meaning.specs.Meaning.{AtLimit, named}
use Rattle.just_meaning.specs.Module.{situation_at}
use Rattle.just_syntax.specs.Occurrences.{CallOf, CommandOf, Mention, VariableOf}
use Rattle.just_meaning.specs.Reaches.{Occurs}
use Rattle.just_meaning.specs.Resolved.{AllNumbered, IsNumbered, HasValue, IsResolvedConst}
use Rattle.just_meaning.specs.ResolvedOn.{IsResolvedOn}
use Rattle.just_meaning.specs.Stage.{Constants, StageState, Staged, after_assignment, after_outcome, at_start, const_assigned, const_meaning, is_due, stage}
use Rattle.just_meaning.specs.Stage.{with_open}
use Rattle.just_soundness.proofs.Forms.{OfForms}
use Rattle.just_soundness.proofs.Ready.{IsReady, due_of, reads_known, ready_opened, ready_passed, ready_settled, ready_start}
use Rattle.just_soundness.proofs.Constants.{AllConst, Fine, const_eval, const_override, const_refused, shut_such, unless_such}

-- the refusal is not one that only an unresolved module meets
abbrev pub IsOther : Refusal → Type 0
IsOther r = IsInternal r → ⊥

pub allows_others : OfForms IsOther
allows_others = record { assertion = λ message t none. none; operation = λ l o r t none. none; regex = λ t none. none }

pub shut_other : (is_open : ℕ → Bool) (x : Note) (s : Refusal) → constantly is_open x ≡ Some s → IsOther s
shut_other = shut_such IsOther (λ c none. none)

-- an open variable is refused as such, and a settled one has its value
known_fine : (is_open : ℕ → Bool) (names : Names) (n : ℕ) → HasValue names n ⊎ (is_open n ≡ true) → Fine IsOther is_open names (VariableOf (Some n))
known_fine is_open names n (inl has) t e = subst (λ o. AllConst IsOther is_open (done (named t o))) (sym has.1) tt
known_fine is_open names n (inr opened) t e = absurd (cc)

-- an expression whose variables are bound or open meets no refusal that is Internal
pub resolved_const : (s : StageState) (e : Expr) → IsResolvedOn s e → AllConst IsOther s.is_open (const_meaning s e)
resolved_const s e resolved = const_eval IsOther s.is_open allows_others nowhere AtLimit (situation_at s.lists s.frames) e fine
  where
    fine : (x : Mention) → Occurs e x → Fine IsOther s.is_open (value_in s.frames) x
    fine (CommandOf text) h = tt
    fine (VariableOf None) h = absurd (resolved.numbered h)
    fine (VariableOf (Some n)) h = known_fine s.is_open (value_in s.frames) n (resolved.known n h)
    fine (CallOf f n) h = tt

-- ---- resolved stages

module _ (m : Constants) (outer : Frames) (resolved : IsResolvedConst m.assignments outer) where
  -- after an assignment the names that are left are ready, and its refusal is not Internal
  abbrev pub IsReadyAfter : StageState → Assignment → List Token → Outcome StageState → Type 0
  IsReadyAfter s a left (Gave next) = IsReady m outer next left
  IsReadyAfter s a left (Refused r) = IsOther r × IsReady m outer (with_open s a.number) left
  IsReadyAfter s a left Stopped = Unit {0}

  ready_after : (s : StageState) (t : Token) (left : List Token) (a : Assignment) → assignment_at m.assignments t.lexeme ≡ Some a
      → IsReady m outer s (t ∷ left) → IsReadyAfter s a left (after_assignment m s t (assignment_at m.assignments t.lexeme))
  ready_after s t left a found ready = rw found (by (is_due m s a) refl (const_assigned m s a) refl)
    where
      numbered : IsNumbered a.value
      numbered = found_is (λ (a : Assignment). a.name.lexeme) t.lexeme (λ xs. AllNumbered (map (λ a. a.value) xs)) (λ a. IsNumbered a.value) (λ a xs h. h.0)
          (λ a xs h. h.1) m.assignments.all a resolved.values found

      assigned_not : m.assignments.referenced a.number ≡ true → IfRefused IsOther (const_assigned m s a)
      assigned_not referenced = const_refused IsOther s.is_open _ (shut_other s.is_open) (const_override IsOther s.is_open (m.overrides a.number) _
          (resolved_const s a.value (record { numbered = numbered; known = reads_known ready a found referenced })))

      by : (b : Bool) → is_due m s a ≡ b → (o : Outcome Value) → const_assigned m s a ≡ o
          → IsReadyAfter s a left (if b then after_outcome s a o else Gave s)
      by false e o k = ready_passed ready a found e
      by true e (Gave v) k = ready_settled ready a found (due_of m s t a found e).referenced v
      by true e (Refused (Const c)) k = ready_opened ready a found (due_of m s t a found e).referenced
      by true e (Refused r) k = let referenced = (due_of m s t a found e).referenced in
          (subst (IfRefused IsOther) k (assigned_not referenced), ready_opened ready a found referenced)
      by true e Stopped k = tt

  -- the same for a stage over one name
  pub ready_after_one : (s : StageState) (t : Token) (left : List Token) (ready : IsReady m outer s (t ∷ left)) (o : Outcome StageState)
      → o ≡ stage m s (t ∷ []) → IsReadyAfter s ready.named.0.0 left o
  ready_after_one s t left ready o h = subst (IsReadyAfter s ready.named.0.0 left) (sym (h ∙ alone _)) (ready_after s t left _ ready.named.0.1 ready)
    where
      alone : (o : Outcome StageState) → and_then o (λ next. Gave next) ≡ o
      alone (Gave next) = refl
      alone (Refused r) = refl
      alone Stopped = refl

  stage_not : (s : StageState) (names : List Token) → IsReady m outer s names → IsNotInternal (stage m s names)
  stage_not s [] ready = tt
  stage_not s (t ∷ left) ready = on _ (ready_after s t left _ ready.named.0.1 ready) (λ next. stage_not next left)
    where
      on : (o : Outcome StageState) → IsReadyAfter s ready.named.0.0 left o
          → ((next : StageState) → IsReady m outer next left → IsNotInternal (stage m next left)) → IsNotInternal (and_then o (λ next. stage m next left))
      on (Gave next) h rest = rest next h
      on (Refused r) h rest = h.0
      on Stopped h rest = tt

-- a const stage of resolved assignments is not refused as Internal
pub resolved_stage_is_never_internal : (m : Constants) (lists : Bool) (outer : Frames) (o : Outcome StageState) → IsResolvedConst m.assignments outer
    → Staged m (at_start lists outer) m.assignments.order o → IsNotInternal o
resolved_stage_is_never_internal m lists outer o resolved staged =
    unless_such IsOther o _ staged.ends (stage_not m outer resolved (at_start lists outer) m.assignments.order (ready_start m lists outer resolved))
