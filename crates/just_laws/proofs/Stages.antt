-- The state of a const stage before each of its assignments.
use Rattle.std.proofs.Common.{◌≡◌, ◌⊎◌, ⊎_elim, inl, inr, ℕ, Bool, true, false, ◌&&◌, ◌||◌, List, [], ◌∷◌, ◌++◌, map, nat_eq, Option, Some, None, refl, sym}
use Rattle.std.proofs.Common.{ap, ◌∙◌, subst, if◌then◌else◌, arith}
use Rattle.std.proofs.Math.Bool.{or-false, or-true}
use Rattle.std.proofs.lemmas.Bool.Decides.{nat_tests}
use Rattle.just_syntax.specs.Plain.{Token, Assignment}
use Rattle.just_syntax.specs.Lists.{IsIn}
use Rattle.just_syntax.proofs.Lists.{in_of, of_in}
use Rattle.just_value.specs.Value.{Value}
use Rattle.just_value.specs.Frames.{Bound, Frame, Frames, bound_at, own_frame, value_in, with_bound}
use Rattle.just_value.specs.ConstRefusal.{ConstRefusal}
use Rattle.just_value.specs.Refusal.{Refusal, Const}
use Rattle.just_value.specs.Outcome.{Outcome, Gave, Refused, Stopped, and_then}
use Rattle.just_meaning.specs.Assignments.{assignment_at}
use Rattle.just_meaning.specs.Module.{bound_of}
use Rattle.just_syntax.specs.Occurrences.{VariableOf}
use Rattle.just_meaning.specs.Reaches.{Occurs}
use Rattle.just_meaning.specs.Resolved.{AreAssignments, AreDistinct, HasValue, IsResolvedConst}
use Rattle.just_meaning.specs.Stage.{Constants, StageState, Found, after_assignment, after_outcome, at_start, const_assigned, found_later, found_here, is_due}
use Rattle.just_meaning.specs.Stage.{stage, stage_found, with_open, with_settled}
use Rattle.just_soundness.proofs.Bound.{bound_put, has_put, over_put}
use Rattle.just_soundness.proofs.Ready.{IsDue, IsReady, due_of, reads_known, ready_opened, ready_passed, ready_settled, ready_start, ready_front}
use Rattle.just_soundness.proofs.Taken.{HasOrIsOpen}
use Rattle.just_laws.specs.Predicted.{IsWhatWasFound, is_found_open, is_opened, whole_found, whole_stage}
use Rattle.just_laws.specs.Cone.{assignment_numbered}
use Rattle.just_laws.proofs.Blocks.{below_nothing, found_numbered, gave_same, kept_bound, never_both, put_bound, some_same, unbound_value}

-- ---- tests

or_swap : (p q r : Bool) → ((p || q) || r) ≡ (q || (p || r))
or_swap true q r = sym (or-true q)
or_swap false q r = refl

-- ---- the rules of a stage

-- a stage over these names: what it finds, and its outcome
pub data Staging (m : Constants) : StageState → List Token → List Found → Outcome StageState → Type 0 where
  Finished : {s : StageState} → Staging m s [] [] (Gave s)
  Unknown : {s : StageState} {t : Token} {left : List Token} {r : Refusal} → assignment_at m.assignments t.lexeme ≡ None
      → Staging m s (t ∷ left) [] (Refused r)
  Passes : {s : StageState} {t : Token} {left : List Token} {fs : List Found} {o : Outcome StageState} → (a : Assignment)
      → assignment_at m.assignments t.lexeme ≡ Some a → is_due m s a ≡ false → Staging m s left fs o → Staging m s (t ∷ left) fs o
  Settles : {s : StageState} {t : Token} {left : List Token} {fs : List Found} {o : Outcome StageState}
      → (a : Assignment) (v : Value) → IsDue m s t a → const_assigned m s a ≡ Gave v → Staging m (with_settled s (bound_of false a v)) left fs o
      → Staging m s (t ∷ left) (record { number = a.number; outcome = Gave v } ∷ fs) o
  Opens : {s : StageState} {t : Token} {left : List Token} {fs : List Found} {o : Outcome StageState}
      → (a : Assignment) (c : ConstRefusal) → IsDue m s t a → const_assigned m s a ≡ Refused (Const c) → Staging m (with_open s a.number) left fs o
      → Staging m s (t ∷ left) (record { number = a.number; outcome = Refused (Const c) } ∷ fs) o
  Breaks : {s : StageState} {t : Token} {left : List Token} → (a : Assignment) (r : Refusal) → is_opened (Refused r) ≡ false → IsDue m s t a
      → const_assigned m s a ≡ Refused r → Staging m s (t ∷ left) (record { number = a.number; outcome = Refused r } ∷ []) (Refused r)
  Halts : {s : StageState} {t : Token} {left : List Token} → (a : Assignment) → IsDue m s t a → const_assigned m s a ≡ Stopped
      → Staging m s (t ∷ left) (record { number = a.number; outcome = Stopped } ∷ []) Stopped

pub staging : (m : Constants) (s : StageState) (names : List Token) → Staging m s names (stage_found m s names) (stage m s names)
staging m s [] = Finished
staging m s (t ∷ left) = named (assignment_at m.assignments t.lexeme) refl (λ next. staging m next left)
  where
    named : (x : Option Assignment) → assignment_at m.assignments t.lexeme ≡ x
        → ((next : StageState) → Staging m next left (stage_found m next left) (stage m next left))
        → Staging m s (t ∷ left) (found_here m s x ++ found_later (after_assignment m s t x) (λ next. stage_found m next left))
        (and_then (after_assignment m s t x) (λ next. stage m next left))
    named None e rest = Unknown e
    named (Some a) e rest = by (is_due m s a) refl (const_assigned m s a) refl
      where
        by : (b : Bool) → is_due m s a ≡ b → (o : Outcome Value) → const_assigned m s a ≡ o
            → Staging m s (t ∷ left) ((if b then record { number = a.number; outcome = o } ∷ [] else [])
            ++ found_later (if b then after_outcome s a o else Gave s) (λ next. stage_found m next left))
            (and_then (if b then after_outcome s a o else Gave s) (λ next. stage m next left))
        by false h o k = Passes a e h (rest s)
        by true h (Gave v) k = Settles a v (due_of m s t a e h) k (rest (with_settled s (bound_of false a v)))
        by true h (Refused (Const c)) k = Opens a c (due_of m s t a e h) k (rest (with_open s a.number))
        by true h (Refused r) k = Breaks a r refl (due_of m s t a e h) k
        by true h Stopped k = Halts a (due_of m s t a e h) k

-- ---- the state before an assignment

-- the standing of a stage over these outer frames
abbrev pub stage_state : Bool → Frames → Frame → (ℕ → Bool) → StageState
stage_state lists outer frame opened = record { lists = lists; frames = frame ∷ outer; is_open = opened }

-- the value is bound outside, or the stage found it
abbrev pub IsFound : Frames → List Found → ℕ → Value → Type 0
IsFound outer fs k v = (value_in outer k ≡ Some v) ⊎ ((f : Found) × IsIn fs f × (f.number ≡ k) × (f.outcome ≡ Gave v))

-- The state of the stage at this assignment: what it has bound and opened so far. The assignment is not bound. A
-- variable that occurs in it is open now exactly if it is open at the end; otherwise it has a value.
pub record MetConst (m : Constants) (lists : Bool) (outer : Frames) (ends : ℕ → Bool) (fs : List Found) (f : Found) : Type 0 where
  pub frame : Frame
  pub opened : ℕ → Bool
  pub assignment : Assignment
  pub number : assignment.number ≡ f.number
  pub found : assignment_numbered m.assignments.all assignment.number ≡ Some assignment
  pub unbound : value_in (frame ∷ outer) assignment.number ≡ None
  pub comes : const_assigned m (stage_state lists outer frame opened) assignment ≡ f.outcome
  pub given : (k : ℕ) (v : Value) → value_in (frame ∷ outer) k ≡ Some v → IsFound outer fs k v
  pub steady : (k : ℕ) → Occurs assignment.value (VariableOf (Some k)) → opened k ≡ ends k
  pub has : (k : ℕ) → Occurs assignment.value (VariableOf (Some k)) → opened k ≡ false → HasValue (value_in (frame ∷ outer)) k

pub found_outside : (m : Constants) (lists : Bool) (outer : Frames) (ends : ℕ → Bool) (fs : List Found) (f : Found) → MetConst m lists outer ends fs f
    → value_in outer f.number ≡ None
found_outside m lists outer ends fs f k = subst (λ n. value_in outer n ≡ None) k.number (below_nothing k.frame (value_in outer) k.assignment.number k.unbound)

module _ (m : Constants) (lists : Bool) (outer : Frames) where
  -- a number with a value is not opened later
  stays_shut : (frame : Frame) (opened : ℕ → Bool) {left : List Token} {fs : List Found} {o : Outcome StageState}
      → Staging m (stage_state lists outer frame opened) left fs o → (k : ℕ) → HasValue (value_in (frame ∷ outer)) k → is_found_open fs k ≡ false
  stays_shut frame opened Finished k h = refl
  stays_shut frame opened (Unknown f) k h = refl
  stays_shut frame opened (Passes a found e r) k h = stays_shut frame opened r k h
  stays_shut frame opened (Settles a v new e r) k h = stays_shut _ opened r k (has_put frame (value_in outer) (bound_of false a v) k (inr h))
  stays_shut frame opened (Opens {fs = fs} a c new e r) k h = shut (nat_eq k a.number) refl (stays_shut frame _ r k h)
    where
      shut : (b : Bool) → nat_eq k a.number ≡ b → is_found_open fs k ≡ false → ((true && b) || is_found_open fs k) ≡ false
      shut true e rest = let same : a.number ≡ k = grind (arith, nat_tests) in
          absurd (never_both h.0 (value_in (frame ∷ outer) k) h.1
          (subst (λ n. value_in (frame ∷ outer) n ≡ None) same (unbound_value a.number (frame ∷ outer) new.unbound)))
      shut false e rest = rest
  stays_shut frame opened (Breaks a s final new e) k h = ap (λ b. (b && nat_eq k a.number) || false) final
  stays_shut frame opened (Halts a new e) k h = refl

  -- the open numbers at the end
  ends_open : (frame : Frame) (opened : ℕ → Bool) {left : List Token} {fs : List Found} {s : StageState}
      → Staging m (stage_state lists outer frame opened) left fs (Gave s) → (n : ℕ) → s.is_open n ≡ (opened n || is_found_open fs n)
  ends_open frame opened Finished n = sym (or-false (opened n))
  ends_open frame opened (Passes a found e r) n = ends_open frame opened r n
  ends_open frame opened (Settles a v new e r) n = ends_open _ opened r n
  ends_open frame opened (Opens {fs = fs} a c new e r) n = ends_open frame _ r n ∙ or_swap (nat_eq n a.number) (opened n) (is_found_open fs n)

  -- a binding at the end was there before, or the stage found its value
  ends_bound : (frame : Frame) (opened : ℕ → Bool) {left : List Token} {fs : List Found} {s : StageState}
      → Staging m (stage_state lists outer frame opened) left fs (Gave s) → (n : ℕ) (b : Bound) → bound_at n (own_frame s.frames) ≡ Some b
      → (bound_at n frame ≡ Some b) ⊎ ((f : Found) × IsIn fs f × (f.number ≡ n) × (f.outcome ≡ Gave b.value))
  ends_bound frame opened Finished n b h = inl h
  ends_bound frame opened (Passes a found e r) n b h = ends_bound frame opened r n b h
  ends_bound frame opened (Settles a v new e r) n b h =
      ⊎_elim
      (λ old. ⊎_elim
      (λ put. inr (
        record { number = a.number; outcome = Gave v },
        inl refl,
        put.0,
        ap (λ (x : Bound). Gave x.value) (some_same (bound_of false a v) b (sym put.1 ∙ old)),
      ))
      (λ kept. inl (sym kept.1 ∙ old))
      (bound_put frame (bound_of false a v) n))
      (λ f. inr (f.0, inr f.1, f.2, f.3))
      (ends_bound _ opened r n b h)
  ends_bound frame opened (Opens a c new e r) n b h = ⊎_elim (λ old. inl old) (λ f. inr (f.0, inr f.1, f.2, f.3)) (ends_bound frame _ r n b h)

  -- a binding stays
  stays_bound : (frame : Frame) (opened : ℕ → Bool) {left : List Token} {fs : List Found} {s : StageState}
      → Staging m (stage_state lists outer frame opened) left fs (Gave s)
      → (n : ℕ) (b : Bound) → bound_at n frame ≡ Some b → bound_at n (own_frame s.frames) ≡ Some b
  stays_bound frame opened Finished n b h = h
  stays_bound frame opened (Passes a found e r) n b h = stays_bound frame opened r n b h
  stays_bound frame opened (Settles a v new e r) n b h = stays_bound _ opened r n b (kept_bound frame outer (bound_of false a v) n b new.unbound h)
  stays_bound frame opened (Opens a c new e r) n b h = stays_bound frame _ r n b h

  -- a value that the stage finds is bound at the end
  ends_settled : (frame : Frame) (opened : ℕ → Bool) {left : List Token} {fs : List Found} {s : StageState}
      → Staging m (stage_state lists outer frame opened) left fs (Gave s)
      → (f : Found) (v : Value) → IsIn fs f → f.outcome ≡ Gave v → (b : Bound) × (bound_at f.number (own_frame s.frames) ≡ Some b) × (b.value ≡ v)
  ends_settled frame opened Finished f v at e = absurd at
  ends_settled frame opened (Passes a found h r) f v at e = ends_settled frame opened r f v at e
  ends_settled frame opened {s = s} (Settles a u new k r) f v (inl same) e = (
    bound_of false a u,
    subst (λ n. bound_at n (own_frame s.frames) ≡ Some (bound_of false a u)) (ap (λ (x : Found). x.number) same)
        (stays_bound _ opened r a.number _ (put_bound frame (bound_of false a u))),
    gave_same u v (ap (λ (x : Found). x.outcome) same ∙ e),
  )
  ends_settled frame opened (Settles a u new k r) f v (inr at) e = ends_settled _ opened r f v at e
  ends_settled frame opened (Opens a c new k r) f v (inl same) e = let other : Refused (Const c) ≡ Gave v =
      ap (λ (x : Found). x.outcome) same ∙ e in absurd (cc)
  ends_settled frame opened (Opens a c new k r) f v (inr at) e = ends_settled frame _ r f v at e

  -- a refused stage of known names found that refusal
  pub ends_refused : (state : StageState) {left : List Token} {fs : List Found} {o : Outcome StageState} → AreAssignments m.assignments left
      → Staging m state left fs o → (r : Refusal) → o ≡ Refused r → (f : Found) × IsIn fs f × (f.outcome ≡ Refused r)
  ends_refused at named Finished r e = absurd (cc)
  ends_refused at named (Unknown none) r e = let some = named.0.1 in absurd (cc)
  ends_refused at named (Passes a found h q) r e = ends_refused _ named.1 q r e
  ends_refused at named (Settles a v new k q) r e = let f = ends_refused _ named.1 q r e in (f.0, inr f.1, f.2)
  ends_refused at named (Opens a c new k q) r e = let f = ends_refused _ named.1 q r e in (f.0, inr f.1, f.2)
  ends_refused at named (Breaks a s final new k) r e = (record { number = a.number; outcome = Refused s }, inl refl, cc)
  ends_refused at named (Halts a new k) r e = absurd (cc)

  pub is_what_was_found : (s : StageState) → whole_stage m lists outer ≡ Gave s → IsWhatWasFound (whole_found m lists outer) s
  is_what_was_found s e = record {
    opens = λ n. ends_open [] (λ n. false) r n;
    binds = λ n b h. ⊎_elim (λ none. absurd (cc)) (λ f. (f.0, of_in (whole_found m lists outer) f.0 f.1, f.2, f.3)) (ends_bound [] (λ n. false) r n b h);
    settles = λ f v at e. ends_settled [] (λ n. false) r f v (in_of (whole_found m lists outer) f at) e;
  }
    where
      r : Staging m (stage_state lists outer [] (λ n. false)) m.assignments.order (whole_found m lists outer) (Gave s)
      r = subst (Staging m (at_start lists outer) m.assignments.order (whole_found m lists outer)) e (staging m (at_start lists outer) m.assignments.order)

  -- ---- the state before an assignment

  module _ (distinct : AreDistinct (map (λ a. a.number) m.assignments.all)) (ends : ℕ → Bool) (all : List Found) where
    abbrev AllFound : Frame → Type 0
    AllFound frame = (k : ℕ) (v : Value) → value_in (frame ∷ outer) k ≡ Some v → IsFound outer all k v

    abbrev AreEnds : (ℕ → Bool) → List Found → Type 0
    AreEnds opened fs = (n : ℕ) → (opened n || is_found_open fs n) ≡ ends n

    module _ (frame : Frame) (opened : ℕ → Bool) (t : Token) (left : List Token) (a : Assignment) (f : Found) {fs : List Found} {o : Outcome StageState}
        (whole : Staging m (stage_state lists outer frame opened) (t ∷ left) (f ∷ fs) o)
        (ready : IsReady m outer (stage_state lists outer frame opened) (t ∷ left)) (given : AllFound frame) (all_ends : AreEnds opened (f ∷ fs))
        (number : a.number ≡ f.number) (new : IsDue m (stage_state lists outer frame opened) t a)
        (comes : const_assigned m (stage_state lists outer frame opened) a ≡ f.outcome) where
      steady : (k : ℕ) → HasOrIsOpen (frame ∷ outer) opened k → (b : Bool) → opened k ≡ b → opened k ≡ ends k
      steady k h true e = e ∙ sym (ap (λ b. b || is_found_open (f ∷ fs) k) e) ∙ all_ends k
      steady k (inl has) false e = e ∙ sym (stays_shut frame opened whole k has) ∙ sym (ap (λ b. b || is_found_open (f ∷ fs) k) e) ∙ all_ends k
      steady k (inr already) false e = absurd (let q : true ≡ false = sym already ∙ e in cc)

      met_here : MetConst m lists outer ends all f
      met_here = record {
        frame = frame;
        opened = opened;
        assignment = a;
        number = number;
        found = found_numbered t.lexeme m.assignments.all a distinct new.found;
        unbound = unbound_value a.number (frame ∷ outer) new.unbound;
        comes = comes;
        given = given;
        steady = λ k h. steady k (reads_known ready a new.found new.referenced k h) (opened k) refl;
        has = λ k h e. ⊎_elim (λ has. has) (λ already. absurd (let q : true ≡ false = sym already ∙ e in cc))
            (reads_known ready a new.found new.referenced k h);
      }

    met_from : (frame : Frame) (opened : ℕ → Bool) {left : List Token} {fs : List Found} {o : Outcome StageState}
        → ((f : Found) → IsIn fs f → IsIn all f) → IsReady m outer (stage_state lists outer frame opened) left → AllFound frame → AreEnds opened fs
        → Staging m (stage_state lists outer frame opened) left fs o → (f : Found) → IsIn fs f → MetConst m lists outer ends all f
    met_from frame opened within ready given all_ends Finished f at = absurd at
    met_from frame opened within ready given all_ends (Unknown none) f at = absurd at
    met_from frame opened within ready given all_ends (Passes a u e r) f at = met_from frame opened within (ready_passed ready a u e) given all_ends r f at
    met_from frame opened {left = t ∷ left} within ready given all_ends (Settles a v new e r) f (inl same) =
        subst (MetConst m lists outer ends all) same (met_here frame opened t left a _ (Settles a v new e r) ready given all_ends refl new e)
    met_from frame opened within ready given all_ends (Settles a v new e r) f (inr at) =
        met_from _ opened (λ g i. within g (inr i)) (ready_settled ready a new.found new.referenced v) settled all_ends r f at
      where
        b : Bound
        b = bound_of false a v

        settled : AllFound (with_bound frame b)
        settled k u h =
            ⊎_elim
            (λ put. inr (
              record { number = a.number; outcome = Gave v },
              within _ (inl refl),
              put.0,
              ap Gave (some_same v u (sym (put.1 (value_in outer)) ∙ h)),
            ))
            (λ kept. given k u (sym (kept.1 (value_in outer)) ∙ h))
            (over_put frame b k)
    met_from frame opened {left = t ∷ left} within ready given all_ends (Opens a c new e r) f (inl same) =
        subst (MetConst m lists outer ends all) same (met_here frame opened t left a _ (Opens a c new e r) ready given all_ends refl new e)
    met_from frame opened {fs = g ∷ fs} within ready given all_ends (Opens a c new e r) f (inr at) =
        met_from frame _ (λ g i. within g (inr i)) (ready_opened ready a new.found new.referenced) given
        (λ n. or_swap (nat_eq n a.number) (opened n) (is_found_open fs n) ∙ all_ends n) r f at
    met_from frame opened {left = t ∷ left} within ready given all_ends (Breaks a s final new e) f (inl same) =
        subst (MetConst m lists outer ends all) same (met_here frame opened t left a _ (Breaks a s final new e) ready given all_ends refl new e)
    met_from frame opened within ready given all_ends (Breaks a s final new e) f (inr none) = absurd none
    met_from frame opened {left = t ∷ left} within ready given all_ends (Halts a new e) f (inl same) =
        subst (MetConst m lists outer ends all) same (met_here frame opened t left a _ (Halts a new e) ready given all_ends refl new e)
    met_from frame opened within ready given all_ends (Halts a new e) f (inr none) = absurd none

  pub all_met : (names more : List Token) → m.assignments.order ≡ names ++ more → IsResolvedConst m.assignments outer → (f : Found)
      → IsIn (stage_found m (at_start lists outer) names) f
      → MetConst m lists outer (is_found_open (stage_found m (at_start lists outer) names)) (stage_found m (at_start lists outer) names) f
  all_met names more is resolved f at =
      let fs = stage_found m (at_start lists outer) names in
      met_from resolved.distinct (is_found_open fs) fs [] (λ n. false) (λ g i. i)
      (ready_front m outer (at_start lists outer) names more (subst (IsReady m outer (at_start lists outer)) is (ready_start m lists outer resolved)))
      (λ k v h. inl h) (λ n. refl) (staging m (at_start lists outer) names) f at
