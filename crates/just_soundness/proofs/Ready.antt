-- Const stages whose names are taken in order.
use Rattle.std.proofs.Common.{◌≡◌, inl, inr, ℕ, Bool, true, false, ◌&&◌, not, List, [], ◌∷◌, ◌++◌, Option, Some, None, if◌then◌else◌, refl, sym, ap, subst}
use Rattle.std.specs.Option.{is_some}
use Rattle.just_syntax.specs.Plain.{Token, Assignment}
use Rattle.just_value.specs.Value.{Value}
use Rattle.just_value.specs.Frames.{Bound, Frame, Frames, bound_innermost, innermost, with_bound}
use Rattle.just_meaning.specs.Assignments.{assignment_at}
use Rattle.just_meaning.specs.Module.{bound_of}
use Rattle.just_syntax.specs.Occurrences.{VariableOf}
use Rattle.just_meaning.specs.Reaches.{Occurs}
use Rattle.just_meaning.specs.Resolved.{AreAssignments, AreInOrder, IsResolvedConst}
use Rattle.just_meaning.specs.Stage.{Constants, StageState, at_start, is_due, with_open, with_settled}
use Rattle.just_soundness.proofs.Bound.{bound_value}
use Rattle.just_soundness.proofs.Taken.{AllHaveOrAreOpen, HasOrIsOpen, known_more, known_opened, known_put, none_taken, order_on}

-- the assignment is evaluated
pub record IsDue (m : Constants) (s : StageState) (t : Token) (a : Assignment) : Type 0 where
  pub found : assignment_at m.assignments t.lexeme ≡ Some a
  pub referenced : m.assignments.referenced a.number ≡ true
  pub unbound : innermost a.number s.frames ≡ None
  pub unopened : s.is_open a.number ≡ false

pub due_of : (m : Constants) (s : StageState) (t : Token) (a : Assignment) → assignment_at m.assignments t.lexeme ≡ Some a → is_due m s a ≡ true → IsDue m s t a
due_of m s t a found h = by (m.assignments.referenced a.number) refl (innermost a.number s.frames) refl (s.is_open a.number) refl h
  where
    by : (r : Bool) → m.assignments.referenced a.number ≡ r → (b : Option Bound) → innermost a.number s.frames ≡ b → (o : Bool) → s.is_open a.number ≡ o
        → (r && (not (is_some b) && not o)) ≡ true → IsDue m s t a
    by true e None g false k h = record { found = found; referenced = e; unbound = g; unopened = k }
    by true e None g true k h = absurd (cc)
    by true e (Some b) g o k h = absurd (cc)
    by false e b g o k h = absurd (cc)

-- These names are those of assignments. What each reads is taken before it or bound outside, and what was taken so far
-- has a value or is open.
pub record IsReady (m : Constants) (outer : Frames) (s : StageState) (left : List Token) : Type 0 where
  pub frame : Frame
  pub taken : List ℕ
  pub over : s.frames ≡ frame ∷ outer
  pub named : AreAssignments m.assignments left
  pub in_order : AreInOrder [] m.assignments outer taken left
  pub known : AllHaveOrAreOpen outer frame s.is_open taken

pub ready_start : (m : Constants) (lists : Bool) (outer : Frames) → IsResolvedConst m.assignments outer
    → IsReady m outer (at_start lists outer) m.assignments.order
ready_start m lists outer resolved = record {
  frame = [];
  taken = [];
  over = refl;
  named = resolved.named;
  in_order = resolved.in_order;
  known = none_taken (HasOrIsOpen ([] ∷ outer) (λ n. false)) outer (λ n has. inl has);
}

-- the same of the first names
pub ready_front : (m : Constants) (outer : Frames) (s : StageState) (names more : List Token) → IsReady m outer s (names ++ more) → IsReady m outer s names
ready_front m outer s names more ready = record {
  frame = ready.frame;
  taken = ready.taken;
  over = ready.over;
  named = named names ready.named;
  in_order = ordered names ready.taken ready.in_order;
  known = ready.known;
}
  where
    named : (names : List Token) → AreAssignments m.assignments (names ++ more) → AreAssignments m.assignments names
    named [] h = tt
    named (t ∷ ts) h = (h.0, named ts h.1)

    ordered : (names : List Token) (taken : List ℕ) → AreInOrder [] m.assignments outer taken (names ++ more) → AreInOrder [] m.assignments outer taken names
    ordered [] taken h = tt
    ordered (t ∷ ts) taken h = (h.0, ordered ts _ h.1)

module _ {m : Constants} {outer : Frames} {s : StageState} {t : Token} {left : List Token} (ready : IsReady m outer s (t ∷ left)) (a : Assignment)
    (found : assignment_at m.assignments t.lexeme ≡ Some a) where
  ready_next : (b : Bool) → m.assignments.referenced a.number ≡ b → (next : StageState) (frame : Frame) → next.frames ≡ frame ∷ outer
      → AllHaveOrAreOpen outer frame next.is_open (if b then a.number ∷ ready.taken else ready.taken) → IsReady m outer next left
  ready_next b e next frame over known = record {
    frame = frame;
    taken = if b then a.number ∷ ready.taken else ready.taken;
    over = over;
    named = ready.named.1;
    in_order = order_on [] m.assignments outer ready.taken t left a b found e ready.in_order;
    known = known;
  }

  pub ready_passed : is_due m s a ≡ false → IsReady m outer s left
  ready_passed h = by (m.assignments.referenced a.number) refl (innermost a.number s.frames) refl (s.is_open a.number) refl h
    where
      one_more : m.assignments.referenced a.number ≡ true → HasOrIsOpen (ready.frame ∷ outer) s.is_open a.number → IsReady m outer s left
      one_more e has = ready_next true e s ready.frame ready.over (known_more outer ready.frame s.is_open ready.taken a.number has ready.known)

      by : (r : Bool) → m.assignments.referenced a.number ≡ r → (b : Option Bound) → innermost a.number s.frames ≡ b → (o : Bool) → s.is_open a.number ≡ o
          → (r && (not (is_some b) && not o)) ≡ false → IsReady m outer s left
      by false e b g o k h = ready_next false e s ready.frame ready.over ready.known
      by true e (Some b) g o k h = one_more e (inl (b.value, bound_value a.number (ready.frame ∷ outer) b (rw ready.over at g)))
      by true e None g true k h = one_more e (inr k)
      by true e None g false k h = absurd (cc)

  module _ (referenced : m.assignments.referenced a.number ≡ true) where
    pub ready_settled : (v : Value) → IsReady m outer (with_settled s (bound_of false a v)) left
    ready_settled v = let b : Bound = bound_of false a v in
        ready_next true referenced (with_settled s b) (with_bound ready.frame b) (ap (λ frames. bound_innermost frames b) ready.over)
        (known_put outer ready.frame s.is_open ready.taken b ready.known)

    pub ready_opened : IsReady m outer (with_open s a.number) left
    ready_opened = ready_next true referenced (with_open s a.number) ready.frame ready.over
        (known_opened outer ready.frame s.is_open ready.taken a.number ready.known)

    pub reads_known : (n : ℕ) → Occurs a.value (VariableOf (Some n)) → HasOrIsOpen s.frames s.is_open n
    reads_known n h =
        subst (λ frames. HasOrIsOpen frames s.is_open n) (sym ready.over) (ready.known n (ready.in_order.0 a found referenced n (inl h)))
