-- Binary search among strictly increasing names.
use Rattle.std.proofs.Common.{◌≡◌, ℕ, true, List, [], ◌∷◌, Some, None, Result, Ok, Err, refl, sym, ap, ◌∙◌, get_or, length, map, bytes_eq, is_some}
use Rattle.std.specs.Cmp.Lexicographic.{slice_cmp}
use Rattle.std.specs.List.{AllByRecursion, list_any}
use Rattle.std.specs.List.Sorted.{IsBinarySearchResult, IsSearchInRange, IsStrictlySortedBy}
use Rattle.std.specs.Map.{lookup}
use Rattle.std.specs.Ordering.{is_eq, is_lt, nat_cmp}
use Rattle.std.specs.Result.{is_ok}
use Rattle.std.specs.declared.cmp.Ordering.{Ordering}
use Rattle.std.specs.declared.cmp.Ordering.TheVariants.{Less, Equal, Greater}
use Rattle.std.proofs.lemmas.Bool.{and_parts}
use Rattle.std.proofs.lemmas.Cmp.{nat_list_cmp_total}
use Rattle.std.proofs.lemmas.Map.Made.{is_some-lookup}
use Rattle.std.proofs.lemmas.Map.Text.{is_eq-slice_cmp}
use Rattle.std.proofs.lemmas.Simd.{map-map}
use Rattle.just_builtins.specs.Prelude.{Text, rises}
use Rattle.just_value.proofs.Places.{lookup_at, lookup_between, searched}

abbrev pub order : Text → Text → Ordering
order = slice_cmp nat_cmp

less : (o : Ordering) → is_lt o ≡ true → o ≡ Less
less Less is = refl
less Equal is = absurd (cc)
less Greater is = absurd (cc)

module _ {X : Type 0} (key : X → Text) where
  abbrev pub by_key : X → X → Ordering
  by_key x y = order (key x) (key y)

  -- what is below the first of strictly increasing elements is below all of them
  below_all : (x y : X) (xs : List X) → by_key x y ≡ Less → rises (map key (y ∷ xs)) ≡ true → AllByRecursion (λ z. by_key x z ≡ Less) (y ∷ xs)
  below_all x y [] below up = (below, tt)
  below_all x y (z ∷ xs) below up =
      let parts = and_parts _ _ up in
      (below, below_all x z xs (nat_list_cmp_total.trans (key x) (key y) (key z) below (less _ parts.0)) parts.1)

  pub sorted : (xs : List X) → rises (map key xs) ≡ true → IsStrictlySortedBy by_key xs
  unfolding IsStrictlySortedBy
  sorted [] up = tt
  sorted (x ∷ []) up = (tt, tt)
  sorted (x ∷ y ∷ xs) up =
      let parts = and_parts _ _ up in
      (below_all x y xs (less _ parts.0) parts.1, sorted (y ∷ xs) parts.1)

  -- the result of a search for a name
  module _ {Y : Type 0} (value : X → Y) (xs : List X) (up : rises (map key xs) ≡ true) (name : Text) where
    abbrev keyed_entry : X → Text × Y
    keyed_entry x = (key x, value x)

    tests : (x : X) → bytes_eq (key x) name ≡ is_eq (order (key x) name)
    tests x = sym (is_eq-slice_cmp (key x) name)

    -- an element with the name is what a look-up finds
    pub found : (i : ℕ) (d : X) → IsSearchInRange (Ok i) (length xs) → IsBinarySearchResult (λ x. order (key x) name) xs (Ok i)
        → lookup (λ k. bytes_eq k name) (map keyed_entry xs) ≡ Some (value (get_or xs i d))
    found i d within at = lookup_at key nat_list_cmp_total xs (sorted xs up) name keyed_entry (λ k. bytes_eq k name) tests i d
        (searched key nat_list_cmp_total xs (sorted xs up) name (Ok i) within at)

    -- without one a look-up finds nothing
    pub absent : (i : ℕ) → IsSearchInRange (Err i) (length xs) → IsBinarySearchResult (λ x. order (key x) name) xs (Err i)
        → lookup (λ k. bytes_eq k name) (map keyed_entry xs) ≡ None
    absent i within parted = lookup_between key nat_list_cmp_total xs (sorted xs up) name keyed_entry (λ k. bytes_eq k name) tests i
        (searched key nat_list_cmp_total xs (sorted xs up) name (Err i) within parted)

    is_any : is_some (lookup (λ k. bytes_eq k name) (map keyed_entry xs)) ≡ list_any (λ other. bytes_eq other name) (map key xs)
    is_any =
        is_some-lookup (λ k. bytes_eq k name) (map keyed_entry xs)
        ∙ ap (list_any (λ other. bytes_eq other name)) (map-map (λ (e : Text × Y). e.0) keyed_entry xs)

    -- whether the search succeeds is whether the name is among the keys
    pub tells : (r : Result ℕ ℕ) (d : X) → IsSearchInRange r (length xs) → IsBinarySearchResult (λ x. order (key x) name) xs r
        → is_ok r ≡ list_any (λ other. bytes_eq other name) (map key xs)
    tells (Ok i) d within at = ap is_some (sym (found i d within at)) ∙ is_any
    tells (Err i) d within parted = ap is_some (sym (absent i within parted)) ∙ is_any
