-- Searches among elements with strictly increasing keys.
use Rattle.std.proofs.Common.{◌≡◌, ℕ, zero, suc, ◌+◌, ◌-◌, ◌<◌, Bool, false, List, [], ◌∷◌, length, get_or, map, Some, None, Result, Ok, Err, inl, inr, refl}
use Rattle.std.proofs.Common.{ap, sym, ◌∙◌, arith, Ordering, Less, Equal, Greater, is_eq, is_lt, HoldsAt}
use Rattle.std.specs.Cmp.{IsTotalOrder}
use Rattle.std.specs.Ordering.{ordering_index, ordering_reverse}
use Rattle.std.specs.List.{AllByRecursion, AllWithin}
use Rattle.std.specs.List.Sorted.{IsBinarySearchResult, IsNonDecreasingBy, IsSearchInRange, IsStrictlySortedBy}
use Rattle.std.specs.Map.{lookup}
use Rattle.std.proofs.lemmas.Bool.{cases_lt, cond-false, cond-true}
use Rattle.std.proofs.lemmas.Cmp.{alike_right}
use Rattle.std.proofs.lemmas.List.Sorted.{searchable_from_sorted}
use Rattle.std.proofs.lemmas.Map.Keys.{Less-from_sorted}
use Rattle.just_value.specs.Prelude.{IsPlace}

-- equality does not depend on the order of the two sides
pub ties_back : (o : Ordering) → is_eq (ordering_reverse o) ≡ is_eq o
ties_back Less = refl
ties_back Equal = refl
ties_back Greater = refl

all_mapped : {X K : Type 0} (key : X → K) (P : K → Type 0) (xs : List X) → AllByRecursion P (map key xs) → AllByRecursion (λ x. P (key x)) xs
all_mapped key P [] h = tt
all_mapped key P (x ∷ xs) h = (h.0, all_mapped key P xs h.1)

-- strictly increasing keys give strictly increasing elements, compared by their keys
pub rising_by_key : {X K : Type 0} (key : X → K) (R : K → K → Ordering) (xs : List X) → IsStrictlySortedBy R (map key xs)
    → IsStrictlySortedBy (λ a b. R (key a) (key b)) xs
unfolding IsStrictlySortedBy
rising_by_key key R [] h = tt
rising_by_key key R (x ∷ xs) h = (all_mapped key (λ k. R (key x) k ≡ Less) xs h.0, rising_by_key key R xs h.1)

-- a look-up among the entries of elements, by a test that holds exactly where ord is equal
module _ {X J Y : Type 0} (entry : X → J × Y) (test : J → Bool) (ord : X → Ordering) (tests : (x : X) → test (entry x).0 ≡ is_eq (ord x)) where
  missing : (xs : List X) → ((k : ℕ) (d : X) → k < length xs → is_eq (ord (get_or xs k d)) ≡ false) → lookup test (map entry xs) ≡ None
  missing [] h = refl
  missing (x ∷ xs) h = cond-false _ _ _ (tests x ∙ h 0 x (omega arith)) ∙ missing xs (λ k d lt. h (suc k) d (omega arith))

  found : (xs : List X) (i : ℕ) (d : X) → i < length xs → AllWithin (λ x. ord x ≡ Less) xs 0 i → HoldsAt (λ x. ord x ≡ Equal) xs i
      → lookup test (map entry xs) ≡ Some (entry (get_or xs i d)).1
  found [] i d within below here = absurd (omega arith)
  found (x ∷ xs) zero d within below here = cond-true _ _ _ (tests x ∙ ap is_eq (here x))
  found (x ∷ xs) (suc i) d within below here =
      cond-false _ _ _ (tests x ∙ ap is_eq (below 0 x (omega arith) (omega arith)))
      ∙ found xs i d (omega arith) (λ k e lo hi. below (suc k) e (omega arith) (omega arith)) here

module _ {X K : Type 0} (key : X → K) {R : K → K → Ordering} (total : IsTotalOrder R) (xs : List X) (rising : IsStrictlySortedBy (λ a b. R (key a) (key b)) xs)
    (k : K) where
  searchable : IsNonDecreasingBy (λ x. ordering_index (R (key x) k)) xs
  searchable =
      searchable_from_sorted total key xs k
      (λ i d lo hi. ap is_lt (total.antisymm _ _ ∙ ap ordering_reverse (Less-from_sorted _ xs i (i + 1) d rising (omega arith) hi)))

  -- the result of a binary search is a place
  pub searched : (r : Result ℕ ℕ) → IsSearchInRange r (length xs) → IsBinarySearchResult (λ x. R (key x) k) xs r → IsPlace (λ x. R (key x) k) xs r
  searched (Ok i) within here = (within, here)
  searched (Err i) within parted = (within, parted searchable)

  -- the place of a number greater than the last is the end
  pub at_end : HoldsAt (λ x. R (key x) k ≡ Less) xs (length xs - 1) → IsPlace (λ x. R (key x) k) xs (Err (length xs))
  at_end last = (
    omega arith,
    (
      λ i d lo hi. elim (cases_lt i (length xs - 1)) [
        | inl below ↦ total.trans _ _ _ (Less-from_sorted _ xs i (length xs - 1) d rising below (omega arith)) (last d)
        | inr after ↦ let same : length xs - 1 ≡ i = omega arith in ap (λ j. R (key (get_or xs j d)) k) (sym same) ∙ last d
      ],
      λ i d lo hi. absurd (omega arith),
    ),
  )

  -- the place of a number less than the first is the start
  pub at_start : HoldsAt (λ x. R k (key x) ≡ Less) xs 0 → IsPlace (λ x. R (key x) k) xs (Err 0)
  at_start first = (
    omega arith,
    (
      λ i d lo hi. absurd (omega arith),
      λ i d lo hi. total.antisymm _ _ ∙ ap ordering_reverse (elim (cases_lt 0 i) [
        | inl after ↦ total.trans _ _ _ (first d) (Less-from_sorted _ xs 0 i d rising after hi)
        | inr before ↦ let same : 0 ≡ i = omega arith in ap (λ j. R k (key (get_or xs j d))) (sym same) ∙ first d
      ]),
    ),
  )

  pub below_place : (i : ℕ) → i < length xs → HoldsAt (λ x. R (key x) k ≡ Equal) xs i → AllWithin (λ x. R (key x) k ≡ Less) xs 0 i
  below_place i within here j d lo hi = sym (alike_right total _ _ _ (here d)) ∙ Less-from_sorted _ xs j i d rising hi within

  module _ {J Y : Type 0} (entry : X → J × Y) (test : J → Bool) (tests : (x : X) → test (entry x).0 ≡ is_eq (R (key x) k)) where
    pub lookup_at : (i : ℕ) (d : X) → IsPlace (λ x. R (key x) k) xs (Ok i) → lookup test (map entry xs) ≡ Some (entry (get_or xs i d)).1
    lookup_at i d place = found entry test (λ x. R (key x) k) tests xs i d place.0 (below_place i place.0 place.1) place.1

    pub lookup_between : (i : ℕ) → IsPlace (λ x. R (key x) k) xs (Err i) → lookup test (map entry xs) ≡ None
    lookup_between i place = missing entry test (λ x. R (key x) k) tests xs (λ j d lt. elim (cases_lt j i) [
      | inl below ↦ ap is_eq (place.1.0 j d (omega arith) below)
      | inr after ↦ ap is_eq (place.1.1 j d after lt)
    ])
