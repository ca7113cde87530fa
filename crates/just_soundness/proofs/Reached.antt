-- Look-ups, and numbers that do not clash.
use Rattle.std.proofs.Common.{◌≡◌, inl, inr, ℕ, Bool, true, false, List, [], ◌∷◌, ◌++◌, map, Option, Some, None, if◌then◌else◌, refl, sym, subst}
use Rattle.just_syntax.specs.Plain.{Text, Assignment, Function, Expr}
use Rattle.just_syntax.specs.Keyed.{value_at}
use Rattle.just_syntax.proofs.Tables.{found_is}
use Rattle.just_syntax.specs.Lists.{IsIn}
use Rattle.just_syntax.proofs.Lists.{in_second, in_first}
use Rattle.just_meaning.specs.Assignments.{Assignments, assignment_at}
use Rattle.just_syntax.specs.Occurrences.{Mention}
use Rattle.just_meaning.specs.Reaches.{function_at, IsAmong, Occurs}
use Rattle.just_meaning.specs.Resolved.{IsKnown, AllKnown, AreDistinct, parameter_numbers, with_taken}

-- ---- numbers

-- if numbers are distinct, none occurs in both parts
pub apart_numbers : (xs ys : List ℕ) (n : ℕ) → AreDistinct (xs ++ ys) → IsIn xs n → IsIn ys n → ⊥
apart_numbers [] ys n h one other = one
apart_numbers (x ∷ xs) ys n h (inl same) other = h.0 (subst (IsIn (xs ++ ys)) (sym same) (in_second xs ys n other))
apart_numbers (x ∷ xs) ys n h (inr later) other = apart_numbers xs ys n h.1 later other

-- the parameters of a function that a look-up finds are among all parameters
pub among_all : (functions : List Function) (name : Text) (f : Function) (n : ℕ) → function_at functions name ≡ Some f → IsAmong f.parameters n
    → IsIn (parameter_numbers functions) n
among_all functions name f n found =
    found_is (λ f. f.name.lexeme) name (λ fs. IsIn (parameter_numbers fs) n → IsIn (parameter_numbers functions) n) (λ g. IsAmong g.parameters n
    → IsIn (parameter_numbers functions) n)
    (λ g gs h among. h (in_first (map (λ p. p.1) g.parameters) (parameter_numbers gs) n among))
    (λ g gs h one. h (in_second (map (λ p. p.1) g.parameters) (parameter_numbers gs) n one)) functions f (λ one. one) found

-- every taken number is an assignment's
pub taken_assigned : (assignments : Assignments) (name : Text) (taken : List ℕ) (n : ℕ)
    → ((n : ℕ) → IsIn taken n → IsIn (map (λ a. a.number) assignments.all) n) → IsIn (with_taken assignments (assignment_at assignments name) taken) n
    → IsIn (map (λ a. a.number) assignments.all) n
taken_assigned assignments name taken n assigned one = by (assignment_at assignments name) refl one
  where
    own : (a : Assignment) → assignment_at assignments name ≡ Some a → IsIn (map (λ a. a.number) assignments.all) a.number
    own a found = found_is (λ a. a.name.lexeme) name (λ xs. (k : ℕ) → IsIn (map (λ a. a.number) xs) k → IsIn (map (λ a. a.number) assignments.all) k)
        (λ a. IsIn (map (λ a. a.number) assignments.all) a.number)
        (λ a xs h. h a.number (inl refl)) (λ a xs h k one. h k (inr one)) assignments.all a (λ k one. one) found

    more : (a : Assignment) → assignment_at assignments name ≡ Some a → (b : Bool) → IsIn (if b then a.number ∷ taken else taken) n
        → IsIn (map (λ a. a.number) assignments.all) n
    more a found true (inl same) = subst (IsIn (map (λ a. a.number) assignments.all)) same (own a found)
    more a found true (inr before) = assigned n before
    more a found false before = assigned n before

    by : (o : Option Assignment) → assignment_at assignments name ≡ o → IsIn (with_taken assignments o taken) n → IsIn (map (λ a. a.number) assignments.all) n
    by None found h = assigned n h
    by (Some a) found h = more a found (assignments.referenced a.number) h

-- ---- what is known

-- what occurs in the expression of a value that a look-up finds is known
pub known_found : {V : Type 0} (functions : List Function) (key : V → Text) (expression : V → Expr) (name : Text) (vs : List V) (v : V)
    → AllKnown functions (map expression vs) → value_at key name vs ≡ Some v → (x : Mention) → Occurs (expression v) x → IsKnown functions x
known_found functions key expression name = found_is key name (λ vs. AllKnown functions (map expression vs)) (λ v. (x : Mention) → Occurs (expression v) x
    → IsKnown functions x) (λ v vs h. h.0) (λ v vs h. h.1)
