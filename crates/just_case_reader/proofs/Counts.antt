-- The number of values in a table after an insertion.
use Rattle.std.proofs.Common.{◌≡◌, ◌≢◌, ℕ, Bool, suc, ◌+◌, true, false, cond, List, [], ◌∷◌, map, length, Option, Some, None, refl, sym, ap, ◌∙◌, if◌then◌else◌}
use Rattle.std.proofs.Common.{arith, is_some, option_map}
use Rattle.std.specs.Cmp.Lexicographic.{slice_cmp}
use Rattle.std.specs.List.{AllByRecursion}
use Rattle.std.specs.List.Sorted.{IsStrictlySortedBy}
use Rattle.std.specs.Ordering.{is_eq, match_ordering, nat_cmp}
use Rattle.std.specs.Str.{bytes_eq}
use Rattle.std.specs.declared.cmp.Ordering.{Ordering}
use Rattle.std.specs.declared.cmp.Ordering.TheVariants.{Less, Equal, Greater}
use Rattle.std.proofs.lemmas.Cmp.{nat_list_cmp_total}
use Rattle.std.proofs.lemmas.Map.Text.{is_eq-slice_cmp}
use Rattle.just_syntax.proofs.Tables.{seen_at}
use Rattle.just_case_reader.specs.Prelude.{Text, value_at, with_value}
use Rattle.just_syntax.specs.Keyed.{IsInOrder}

-- whether two texts are equal, by their comparison
same_if : (k q : Text) (o : Ordering) → slice_cmp nat_cmp k q ≡ o → bytes_eq k q ≡ is_eq o
same_if k q o e = sym (is_eq-slice_cmp k q) ∙ ap is_eq e

module _ {V : Type 0} (key : V → Text) where
  -- a key below another is not among the keys above that one
  none_above : (k q : Text) (vs : List V) → slice_cmp nat_cmp k q ≡ Less → AllByRecursion (λ r. slice_cmp nat_cmp q r ≡ Less) (map key vs)
      → value_at key k vs ≡ None
  none_above k q [] below above = refl
  none_above k q (v ∷ vs) below above =
      let differs : bytes_eq k (key v) ≡ false = same_if k (key v) Less (nat_list_cmp_total.trans k q (key v) below above.0) in
      rw (differs) (none_above k q vs below above.1)

  -- there is one value more, unless there was one with the same key
  pub length_with : (vs : List V) (v : V) → IsInOrder key vs → length (with_value key vs v) ≡ length vs + (if is_some (value_at key (key v) vs) then 0 else 1)
  unfolding IsStrictlySortedBy
  length_with [] v ordered = refl
  length_with (x ∷ xs) v ordered = by (slice_cmp nat_cmp (key v) (key x)) refl (length_with xs v ordered.1)
    where
      by : (o : Ordering) → slice_cmp nat_cmp (key v) (key x) ≡ o → length (with_value key xs v) ≡ length xs + (if is_some (value_at key (key v) xs) then 0
          else 1) → length (match_ordering o (v ∷ x ∷ xs) (v ∷ xs) (x ∷ with_value key xs v))
          ≡ suc (length xs) + (if is_some (cond (bytes_eq (key v) (key x)) (Some x) (value_at key (key v) xs)) then 0 else 1)
      by Less e rest = rw (same_if (key v) (key x) Less e, none_above (key v) (key x) xs e ordered.0) (omega (arith))
      by Equal e rest = rw (same_if (key v) (key x) Equal e) (omega (arith))
      by Greater e rest = rw (same_if (key v) (key x) Greater e) (omega (arith, rest))

-- whether the number of values stays the same
same_count : (n : ℕ) (b : Bool) → n ≡ n + (if b then 0 else 1) → b ≡ true
same_count n true same = refl
same_count n false same = absurd (omega (arith, same))

other_count : (n : ℕ) (b : Bool) → n ≢ n + (if b then 0 else 1) → b ≡ false
other_count n true other = absurd (other (omega (arith)))
other_count n false other = refl

seen_same : {X Y : Type 0} (f : X → Y) (o : Option X) → is_some (option_map f o) ≡ is_some o
seen_same f None = refl
seen_same f (Some x) = refl

-- whether a key has a value, for values viewed by f
pub seen_in : {X Y : Type 0} (f : X → Y) (key : Y → Text) (k : Text) (xs : List X)
    → is_some (value_at key k (map f xs)) ≡ is_some (value_at (λ x. key (f x)) k xs)
seen_in f key k xs = ap is_some (seen_at f key k xs) ∙ seen_same f (value_at (λ x. key (f x)) k xs)

module _ {V : Type 0} (key : V → Text) (vs : List V) (v : V) (ordered : IsInOrder key vs) where
  -- if the number of values stays the same, the key had a value
  pub was_there : length vs ≡ length (with_value key vs v) → is_some (value_at key (key v) vs) ≡ true
  was_there same = same_count (length vs) _ (same ∙ length_with key vs v ordered)

  -- if it grows, the key had none
  pub was_new : length vs ≢ length (with_value key vs v) → is_some (value_at key (key v) vs) ≡ false
  was_new other = other_count (length vs) _ (λ same. other (same ∙ sym (length_with key vs v ordered)))
