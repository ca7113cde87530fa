-- Paired elements.
use Rattle.std.proofs.Common.{◌≡◌, ℕ, ◌<◌, ◌+◌, suc, List, [], ◌∷◌, ◌++◌, length, get_or, set, take, drop, map, Some, refl, ap, ap₂, sym, ◌∙◌, arith, zero}
use Rattle.std.proofs.Common.{add-one, append_assoc}
use Rattle.std.proofs.Math.Seq.{drop-cons, set-append_seam, get_or-append_seam}
use Rattle.std.proofs.lemmas.Bool.{eq-eqb}
use Rattle.just_value.specs.Applied.{applied}
use Rattle.just_value.specs.Prelude.{paired}

-- one more pair
pub paired_more : (s : List ℕ) (xs ys : List (List ℕ)) (i : ℕ) (d e : List ℕ) → i < length xs → i < length ys
    → paired s (take (suc i) xs) (take (suc i) ys) ≡ paired s (take i xs) (take i ys) ++ ((get_or xs i d ++ s) ++ get_or ys i e) ∷ []
paired_more s [] ys i d e h k = absurd (omega arith)
paired_more s (x ∷ xs) [] i d e h k = absurd (omega arith)
paired_more s (x ∷ xs) (y ∷ ys) zero d e h k = refl
paired_more s (x ∷ xs) (y ∷ ys) (suc i) d e h k = ap (λ l. ((x ++ s) ++ y) ∷ l) (paired_more s xs ys i d e (omega arith) (omega arith))

-- as many pairs as there are elements
pub length_paired : (s : List ℕ) (xs ys : List (List ℕ)) → length xs ≡ length ys → length (paired s xs ys) ≡ length xs
length_paired s [] ys e = refl
length_paired s (x ∷ xs) [] e = absurd (omega (arith, e))
length_paired s (x ∷ xs) (y ∷ ys) e = ap suc (length_paired s xs ys (omega (arith, e)))

-- with one or as many on the right, the combination does not depend on the number on the left
pub applied_alike : (s : List ℕ) (x : List ℕ) (xs : List (List ℕ)) (y : List ℕ)
    → applied s (x ∷ xs) (y ∷ []) ≡ Some (map (λ z. (z ++ s) ++ y) (x ∷ xs))
applied_alike s x [] y = refl
applied_alike s x (z ∷ xs) y = refl

pub applied_paired : (s : List ℕ) (xs ys : List (List ℕ)) → length xs ≡ length ys → applied s xs ys ≡ Some (paired s xs ys)
applied_paired s [] [] e = refl
applied_paired s [] (y ∷ ys) e = absurd (omega (arith, e))
applied_paired s (x ∷ []) [] e = absurd (omega (arith, e))
applied_paired s (x ∷ []) (y ∷ []) e = refl
applied_paired s (x ∷ []) (y ∷ z ∷ ys) e = absurd (omega (arith, e))
applied_paired s (x ∷ z ∷ xs) [] e = absurd (omega (arith, e))
applied_paired s (x ∷ z ∷ xs) (y ∷ []) e = absurd (omega (arith, e))
applied_paired s (x ∷ z ∷ xs) (y ∷ w ∷ ys) e = rw (eq-eqb (length (x ∷ z ∷ xs)) (length (y ∷ w ∷ ys)) e) refl

-- Texts that are replaced in place, one after another. The first are done, and the others as they were.
module _ (xs ys done : List (List ℕ)) (i : ℕ) (d : List ℕ) (so_far : xs ≡ done ++ drop i ys) (many : length done ≡ i) (within : i < length ys) where
  split : xs ≡ done ++ get_or ys i d ∷ drop (suc i) ys
  split = so_far ∙ ap (λ zs. done ++ zs) (drop-cons ys i d within)

  pub as_it_was : get_or xs i d ≡ get_or ys i d
  as_it_was = ap₂ (λ zs k. get_or zs k d) split (sym many) ∙ get_or-append_seam done (get_or ys i d) (drop (suc i) ys) d

  pub next_replaced : (x : List ℕ) → set xs i x ≡ (done ++ x ∷ []) ++ drop (i + 1) ys
  next_replaced x = rw (add-one)
      (ap₂ (λ zs k. set zs k x) split (sym many)
      ∙ (set-append_seam done (get_or ys i d) (drop (suc i) ys) x ∙ sym (append_assoc done (x ∷ []) (drop (suc i) ys))))
