-- What was taken earlier or is bound outside, before each name of an order.
use Rattle.std.proofs.Common.{◌≡◌, ◌⊎◌, inl, inr, ℕ, Bool, true, ◌||◌, List, [], ◌∷◌, nat_eq, if◌then◌else◌, Some, refl, ap, subst, arith}
use Rattle.std.proofs.lemmas.Bool.Decides.{nat_tests}
use Rattle.just_syntax.specs.Plain.{Token, Assignment, Function}
use Rattle.just_syntax.specs.Lists.{IsIn}
use Rattle.just_value.specs.Frames.{Bound, Frame, Frames, value_in, with_bound}
use Rattle.just_meaning.specs.Assignments.{Assignments, assignment_at}
use Rattle.just_meaning.specs.Resolved.{HasValue, AreInOrder}
use Rattle.just_soundness.proofs.Bound.{has_put}

-- the order after its first name
pub order_on : (functions : List Function) (assignments : Assignments) (outer : Frames) (taken : List ℕ) (t : Token) (left : List Token) (a : Assignment)
    (b : Bool) → assignment_at assignments t.lexeme ≡ Some a → assignments.referenced a.number ≡ b
    → AreInOrder functions assignments outer taken (t ∷ left) → AreInOrder functions assignments outer (if b then a.number ∷ taken else taken) left
order_on functions assignments outer taken t left a b found e h = rw (found, e) at h.1

-- this holds of what was taken or is bound outside
abbrev pub AllTaken : (ℕ → Type 0) → Frames → List ℕ → Type 0
AllTaken P outer taken = (n : ℕ) → IsIn taken n ⊎ HasValue (value_in outer) n → P n

pub none_taken : (P : ℕ → Type 0) (outer : Frames) → ((n : ℕ) → HasValue (value_in outer) n → P n) → AllTaken P outer []
none_taken P outer bound n (inl none) = absurd none
none_taken P outer bound n (inr has) = bound n has

pub one_taken : (P Q : ℕ → Type 0) (outer : Frames) (taken : List ℕ) (k : ℕ) → ((n : ℕ) → P n → Q n) → Q k → AllTaken P outer taken
    → AllTaken Q outer (k ∷ taken)
one_taken P Q outer taken k on new all n (inl (inl same)) = subst Q same new
one_taken P Q outer taken k on new all n (inl (inr among)) = on n (all n (inl among))
one_taken P Q outer taken k on new all n (inr bound) = on n (all n (inr bound))

-- it has a value
abbrev pub AllHave : Frames → Frame → List ℕ → Type 0
AllHave outer frame taken = AllTaken (HasValue (value_in (frame ∷ outer))) outer taken

module _ (outer : Frames) (frame : Frame) (taken : List ℕ) where
  pub have_more : (k : ℕ) → HasValue (value_in (frame ∷ outer)) k → AllHave outer frame taken → AllHave outer frame (k ∷ taken)
  have_more k = one_taken (HasValue (value_in (frame ∷ outer))) (HasValue (value_in (frame ∷ outer))) outer taken k (λ n has. has)

  pub have_put : (b : Bound) → AllHave outer frame taken → AllHave outer (with_bound frame b) (b.number ∷ taken)
  have_put b = one_taken (HasValue (value_in (frame ∷ outer))) (HasValue (value_in (with_bound frame b ∷ outer))) outer taken b.number
      (λ n has. has_put frame (value_in outer) b n (inr has)) (has_put frame (value_in outer) b b.number (inl refl))

-- it has a value or is open
abbrev pub HasOrIsOpen : Frames → (ℕ → Bool) → ℕ → Type 0
HasOrIsOpen frames is_open n = HasValue (value_in frames) n ⊎ (is_open n ≡ true)

abbrev pub AllHaveOrAreOpen : Frames → Frame → (ℕ → Bool) → List ℕ → Type 0
AllHaveOrAreOpen outer frame is_open taken = AllTaken (HasOrIsOpen (frame ∷ outer) is_open) outer taken

module _ (outer : Frames) (frame : Frame) (is_open : ℕ → Bool) (taken : List ℕ) where
  pub known_more : (k : ℕ) → HasOrIsOpen (frame ∷ outer) is_open k → AllHaveOrAreOpen outer frame is_open taken
      → AllHaveOrAreOpen outer frame is_open (k ∷ taken)
  known_more k = one_taken (HasOrIsOpen (frame ∷ outer) is_open) (HasOrIsOpen (frame ∷ outer) is_open) outer taken k (λ n h. h)

  pub known_put : (b : Bound) → AllHaveOrAreOpen outer frame is_open taken → AllHaveOrAreOpen outer (with_bound frame b) is_open (b.number ∷ taken)
  known_put b = one_taken (HasOrIsOpen (frame ∷ outer) is_open) (HasOrIsOpen (with_bound frame b ∷ outer) is_open) outer taken b.number on
      (inl (has_put frame (value_in outer) b b.number (inl refl)))
    where
      on : (n : ℕ) → HasOrIsOpen (frame ∷ outer) is_open n → HasOrIsOpen (with_bound frame b ∷ outer) is_open n
      on n (inl has) = inl (has_put frame (value_in outer) b n (inr has))
      on n (inr opened) = inr opened

  pub known_opened : (k : ℕ) → AllHaveOrAreOpen outer frame is_open taken → AllHaveOrAreOpen outer frame (λ n. nat_eq n k || is_open n) (k ∷ taken)
  known_opened k = one_taken (HasOrIsOpen (frame ∷ outer) is_open) (HasOrIsOpen (frame ∷ outer) (λ n. nat_eq n k || is_open n)) outer taken k on
      (inr (let e : nat_eq k k ≡ true = grind (arith, nat_tests) in ap (λ b. b || is_open k) e))
    where
      on : (n : ℕ) → HasOrIsOpen (frame ∷ outer) is_open n → HasValue (value_in (frame ∷ outer)) n ⊎ ((nat_eq n k || is_open n) ≡ true)
      on n (inl has) = inl has
      on n (inr opened) = inr (grind (arith, nat_tests))
