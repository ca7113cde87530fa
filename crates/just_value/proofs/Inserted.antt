-- Edits at the place of a number, in elements with strictly increasing numbers.
use Rattle.std.proofs.Common.{◌≡◌, ℕ, zero, suc, ◌<◌, ◌≤◌, List, [], ◌∷◌, length, set, map, refl, ap, sym, ◌∙◌, arith, Ordering, Less, Equal, Greater, nat_cmp}
use Rattle.std.proofs.Common.{HoldsAt, insert}
use Rattle.std.specs.Ordering.{match_ordering, ordering_reverse}
use Rattle.std.specs.List.{AllByRecursion, AllWithin}
use Rattle.std.specs.List.Sorted.{IsStrictlySortedBy}
use Rattle.std.specs.BTreeMap.{insert_entry}
use Rattle.std.proofs.lemmas.Cmp.{nat_cmp_total, ranked}

pub turned : (a b : ℕ) (o : Ordering) → nat_cmp a b ≡ o → nat_cmp b a ≡ ordering_reverse o
turned a b o e = nat_cmp_total.antisymm b a ∙ ap ordering_reverse e

module _ {X Y : Type 0} (number : X → ℕ) (f : X → Y) (y : X) where
  -- an element's number, and its view by f
  abbrev pub numbered_view : X → ℕ × Y
  numbered_view x = (number x, f x)

  step : (x : X) (xs : List X) (o : Ordering) → nat_cmp (number x) (number y) ≡ o → insert_entry nat_cmp (map numbered_view (x ∷ xs)) (number y) (f y)
      ≡ match_ordering (ordering_reverse o) (numbered_view y ∷ map numbered_view (x ∷ xs)) ((number x, f y) ∷ map numbered_view xs)
      (numbered_view x ∷ insert_entry nat_cmp (map numbered_view xs) (number y) (f y))
  step x xs o e =
      ap (λ o. match_ordering o (numbered_view y ∷ map numbered_view (x ∷ xs)) ((number x, f y) ∷ map numbered_view xs)
      (numbered_view x ∷ insert_entry nat_cmp (map numbered_view xs) (number y) (f y))) (turned (number x) (number y) o e)

  pub set_at : (xs : List X) (i : ℕ) → i < length xs → AllWithin (λ x. nat_cmp (number x) (number y) ≡ Less) xs 0 i
      → HoldsAt (λ x. nat_cmp (number x) (number y) ≡ Equal) xs i
      → map numbered_view (set xs i y) ≡ insert_entry nat_cmp (map numbered_view xs) (number y) (f y)
  set_at [] i within below here = absurd (omega arith)
  set_at (x ∷ xs) zero within below here =
      ap (λ n. (n, f y) ∷ map numbered_view xs) (sym (ranked (number x) (number y) Equal (sym (here x)))) ∙ sym (step x xs Equal (here x))
  set_at (x ∷ xs) (suc i) within below here =
      ap (λ es. numbered_view x ∷ es) (set_at xs i (omega arith) (λ k d lo hi. below (suc k) d (omega arith) (omega arith)) here)
      ∙ sym (step x xs Less (below 0 x (omega arith) (omega arith)))

  pub insert_at : (xs : List X) (i : ℕ) → i ≤ length xs → AllWithin (λ x. nat_cmp (number x) (number y) ≡ Less) xs 0 i
      → AllWithin (λ x. nat_cmp (number x) (number y) ≡ Greater) xs i (length xs)
      → map numbered_view (insert xs i y) ≡ insert_entry nat_cmp (map numbered_view xs) (number y) (f y)
  insert_at [] zero within below above = refl
  insert_at [] (suc i) within below above = absurd (omega arith)
  insert_at (x ∷ xs) zero within below above = sym (step x xs Greater (above 0 x (omega arith) (omega arith)))
  insert_at (x ∷ xs) (suc i) within below above =
      ap (λ es. numbered_view x ∷ es) (insert_at xs i (omega arith) (λ k d lo hi. below (suc k) d (omega arith) (omega arith))
      (λ k d lo hi. above (suc k) d (omega arith) (omega arith)))
      ∙ sym (step x xs Less (below 0 x (omega arith) (omega arith)))

pub all_above : (a b : ℕ) (ns : List ℕ) → nat_cmp a b ≡ Less → AllByRecursion (λ n. nat_cmp b n ≡ Less) ns → AllByRecursion (λ n. nat_cmp a n ≡ Less) ns
all_above a b [] lt h = tt
all_above a b (n ∷ ns) lt h = (nat_cmp_total.trans a b n lt h.0, all_above a b ns lt h.1)

module _ {X : Type 0} (number : X → ℕ) (y : X) where
  all_inserted : (P : ℕ → Type 0) (xs : List X) (i : ℕ) → P (number y) → AllByRecursion P (map number xs) → AllByRecursion P (map number (insert xs i y))
  all_inserted P xs zero p h = (p, h)
  all_inserted P [] (suc i) p h = (p, tt)
  all_inserted P (x ∷ xs) (suc i) p h = (h.0, all_inserted P xs i p h.1)

  -- the numbers are still strictly increasing
  pub rising_inserted : (xs : List X) (i : ℕ) → i ≤ length xs → AllWithin (λ x. nat_cmp (number x) (number y) ≡ Less) xs 0 i
      → AllWithin (λ x. nat_cmp (number x) (number y) ≡ Greater) xs i (length xs) → IsStrictlySortedBy nat_cmp (map number xs)
      → IsStrictlySortedBy nat_cmp (map number (insert xs i y))
  unfolding IsStrictlySortedBy
  rising_inserted [] zero within below above h = (tt, tt)
  rising_inserted [] (suc i) within below above h = absurd (omega arith)
  rising_inserted (x ∷ xs) zero within below above h = let lt =
      turned (number x) (number y) Greater (above 0 x (omega arith) (omega arith)) in ((lt, all_above (number y) (number x) (map number xs) lt h.0), h)
  rising_inserted (x ∷ xs) (suc i) within below above h = (
    all_inserted (λ n. nat_cmp (number x) n ≡ Less) xs i (below 0 x (omega arith) (omega arith)) h.0,
    rising_inserted xs i (omega arith) (λ k d lo hi. below (suc k) d (omega arith) (omega arith)) (λ k d lo hi. above (suc k) d (omega arith) (omega arith))
        h.1,
  )
