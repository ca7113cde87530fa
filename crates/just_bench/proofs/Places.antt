-- First occurrences of numbers, and sets with one number added.
use Rattle.std.proofs.Common.{◌≡◌, ◌↔◌, ◌⊎◌, inl, inr, ⊎_elim, ℕ, Bool, true, false, cond, ◌||◌, nat_eq, List, [], ◌∷◌, ◌++◌, append_assoc}
use Rattle.std.proofs.Common.{IsTrue, refl, sym, ap, ◌∙◌}
use Rattle.std.proofs.lemmas.Bool.{eq-eqb, eqb-true}
use Rattle.std.specs.List.{list_any}
use Rattle.just_bench.specs.Prelude.{Token, first_places}
use Rattle.just_syntax.proofs.Maps.{number_with}

-- a member of a set after an insertion is the number that was added, or was a member
is_added : (k n : ℕ) (new old : Bool) → IsTrue new ↔ ((k ≡ n) ⊎ IsTrue old) → new ≡ (nat_eq n k || old)
is_added k n new old adds = by (nat_eq n k) refl new old adds
  where
    by : (t : Bool) → nat_eq n k ≡ t → (new old : Bool) → IsTrue new ↔ ((k ≡ n) ⊎ IsTrue old) → new ≡ (t || old)
    by true e new old adds = adds.1 (inl (sym (eqb-true n k e)))
    by false e true true adds = refl
    by false e false false adds = refl
    by false e false true adds = adds.1 (inr refl)
    by false e true false adds =
        ⊎_elim (λ same. absurd (let other : false ≡ true = sym e ∙ eq-eqb n k (sym same) in cc)) (λ was. sym was) (adds.0 refl)

-- sets with the same numbers give the same first occurrences
pub places_same : (a b : ℕ → Bool) (xs : List (Token × ℕ)) → ((n : ℕ) → a n ≡ b n) → first_places a xs ≡ first_places b xs
places_same a b [] same = refl
places_same a b (x ∷ xs) same =
    rw (
      same x.1,
      places_same a b xs same,
      places_same (λ n. nat_eq n x.1 || a n) (λ n. nat_eq n x.1 || b n) xs (λ n. ap (λ t. nat_eq n x.1 || t) (same n)),
    ) refl

-- a number that did not occur before
pub new_place : (before rest : List (Token × ℕ)) (x : Token × ℕ) (old new : ℕ → Bool) → old x.1 ≡ false
    → ((n : ℕ) → IsTrue (new n) ↔ ((x.1 ≡ n) ⊎ IsTrue (old n))) →
    (before ++ x ∷ []) ++ first_places new rest ≡ before ++ first_places old (x ∷ rest)
new_place before rest x old new fresh adds =
    append_assoc before (x ∷ []) (first_places new rest)
    ∙ ap (λ xs. before ++ x ∷ xs) (places_same new (λ n. nat_eq n x.1 || old n) rest (λ n. is_added x.1 n (new n) (old n) (adds n)))
    ∙ ap (λ t. before ++ cond t (first_places old rest) (x ∷ first_places (λ n. nat_eq n x.1 || old n) rest)) (sym fresh)

-- a number that occurred before
pub known_place : (rest : List (Token × ℕ)) (x : Token × ℕ) (old new : ℕ → Bool) → old x.1 ≡ true → ((n : ℕ) → IsTrue (new n) ↔ ((x.1 ≡ n) ⊎ IsTrue (old n)))
    → first_places new rest ≡ first_places old (x ∷ rest)
known_place rest x old new known adds =
    places_same new old rest (λ n. is_added x.1 n (new n) (old n) (adds n) ∙ was n (nat_eq n x.1) refl)
    ∙ ap (λ t. cond t (first_places old rest) (x ∷ first_places (λ n. nat_eq n x.1 || old n) rest)) (sym known)
  where
    was : (n : ℕ) (t : Bool) → nat_eq n x.1 ≡ t → (t || old n) ≡ old n
    was n true e = sym (ap old (eqb-true n x.1 e) ∙ known)
    was n false e = refl

-- the added number was one of the remaining ones
pub one_fewer : (old new : List ℕ) (k n : ℕ) (rest all : Bool) → list_any (nat_eq n) new ≡ cond (nat_eq k n) true (list_any (nat_eq n) old)
    → (list_any (nat_eq n) old || (nat_eq n k || rest)) ≡ all → (list_any (nat_eq n) new || rest) ≡ all
one_fewer old new k n rest all put is = rw (put, number_with k n (list_any (nat_eq n) old)) (swapped (nat_eq n k) (list_any (nat_eq n) old) rest ∙ is)
  where
    swapped : (x y z : Bool) → ((x || y) || z) ≡ (y || (x || z))
    swapped true true z = refl
    swapped true false z = refl
    swapped false y z = refl
