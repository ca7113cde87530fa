-- Names with their numbers: sorted by their bytes, without duplicates.
use Rattle.std.proofs.Common.{◌≡◌, ℕ, ◌&&◌, Bool, true, false, cond, not, List, [], ◌∷◌, ◌++◌, get_or, map, reverse, Option, Some, None, Ok, Err, Bor, refl, ap}
use Rattle.std.proofs.Common.{sym, subst, ◌∙◌, nat_cmp, is_eq, is_lt}
use Rattle.std.specs.Cmp.Lexicographic.{slice_cmp}
use Rattle.std.specs.List.{dedup, dedup_from}
use Rattle.std.specs.List.Sorted.{IsSortedByKey, IsStableByKey, IsStrictlySortedBy}
use Rattle.std.specs.Map.{lookup}
use Rattle.std.specs.Option.{option_or}
use Rattle.std.specs.Str.{bytes_eq}
use Rattle.std.proofs.lemmas.Cmp.{nat_list_cmp_total, nat_list_eq_equiv, on_total, tied_itself}
use Rattle.std.proofs.lemmas.List.{map-append, map-id, reverse-append}
use Rattle.std.proofs.lemmas.List.Kept.{IsStrictlySortedBy-dedup}
use Rattle.std.proofs.lemmas.Map.Entries.{lookup-filter-keys}
use Rattle.std.proofs.lemmas.Map.Text.{is_eq-slice_cmp}
use Rattle.std.proofs.lemmas.Slice.Eq.{bytes_eq-Decides}
use Rattle.just_value.specs.Prelude.{AreRisingNames, IsPlace, Text, Token, last_of}
use Rattle.just_value.proofs.Bound.{or_choice}
use Rattle.just_value.proofs.Places.{lookup_at, lookup_between}

abbrev pub NamedNumbers : Type 0
NamedNumbers = List (Bor Text × ℕ)

abbrev pub is_key_named : Text → Bor Text → Bool
is_key_named q key = bytes_eq q key.now

pub nothing_rises : AreRisingNames []
unfolding IsStrictlySortedBy
nothing_rises = tt

-- two names are equal exactly if they compare as equal
same_ties : (q : Text) (b : Bor Text × ℕ) → is_key_named q b.0 ≡ is_eq (slice_cmp nat_cmp b.0.now q)
same_ties q b = nat_list_eq_equiv.symm q b.0.now ∙ sym (is_eq-slice_cmp b.0.now q)

module _ (names : NamedNumbers) (rising : AreRisingNames names) (q : Text) (i : ℕ) where
  pub name_found : (d : Bor Text × ℕ) → IsPlace (λ b. slice_cmp nat_cmp b.0.now q) names (Ok i) → lookup (is_key_named q) names ≡ Some (get_or names i d).1
  name_found d place =
      ap (lookup (is_key_named q)) (sym (map-id names))
      ∙ lookup_at (λ b. b.0.now) nat_list_cmp_total names rising q (λ b. b) (is_key_named q) (same_ties q) i d place

  pub name_missing : IsPlace (λ b. slice_cmp nat_cmp b.0.now q) names (Err i) → lookup (is_key_named q) names ≡ None
  name_missing place = ap (lookup (is_key_named q)) (sym (map-id names))
      ∙ lookup_between (λ b. b.0.now) nat_list_cmp_total names rising q (λ b. b) (is_key_named q) (same_ties q) i place

-- a look-up in the stably sorted list finds what it finds in the original one
tied : (q k : Text) → q ≡ k → (not (is_lt (slice_cmp nat_cmp q k)) && not (is_lt (slice_cmp nat_cmp k q))) ≡ true
tied q k e = subst (λ k. (not (is_lt (slice_cmp nat_cmp q k)) && not (is_lt (slice_cmp nat_cmp k q))) ≡ true) e
    (ap (λ o. not (is_lt o) && not (is_lt o)) (tied_itself nat_list_cmp_total q))

module _ (xs ys : NamedNumbers) where
  pub found_sorted : IsStableByKey (λ b. b.0) (λ x y. slice_cmp nat_cmp x.now y.now) xs ys → (q : Text)
      → lookup (is_key_named q) ys ≡ lookup (is_key_named q) xs
  found_sorted stable q =
      let ties = λ (k : Bor Text). not (is_lt (slice_cmp nat_cmp q k.now)) && not (is_lt (slice_cmp nat_cmp k.now q)) in
      let named = λ (k : Bor Text) (h : is_key_named q k ≡ true). tied q k.now ((bytes_eq-Decides q k.now).0 h) in
      sym (lookup-filter-keys (is_key_named q) ties true named ys)
      ∙ ap (lookup (is_key_named q)) (stable (record { ref_ptr = (0, 0); now = q }, 0))
      ∙ lookup-filter-keys (is_key_named q) ties true named xs

-- a look-up finds the first of a run of equal names
abbrev pub has_same_name : Bor Text × ℕ → Bor Text × ℕ → Bool
has_same_name a b = bytes_eq a.0.now b.0.now

passed_over : {Y : Type 0} (s t : Bool) (a b c : Option Y) → t ≡ s → cond s a c ≡ cond s a (cond t b c)
passed_over true t a b c e = refl
passed_over false false a b c e = refl
passed_over false true a b c e = cc

module _ (q : Text) where
  one_of : (b : Bool) (k x : Bor Text × ℕ) (xs : NamedNumbers) → b ≡ has_same_name x k
      → lookup (is_key_named q) (dedup_from has_same_name k xs) ≡ lookup (is_key_named q) (k ∷ xs)
      → lookup (is_key_named q) (dedup_from has_same_name x xs) ≡ lookup (is_key_named q) (x ∷ xs)
      → lookup (is_key_named q) (cond b (dedup_from has_same_name k xs) (k ∷ dedup_from has_same_name x xs)) ≡ lookup (is_key_named q) (k ∷ x ∷ xs)
  one_of true k x xs same here there =
      here ∙ passed_over (is_key_named q k.0) (is_key_named q x.0) _ _ _ (ap (bytes_eq q) ((bytes_eq-Decides x.0.now k.0.now).0 (sym same)))
  one_of false k x xs same here there = ap (cond (is_key_named q k.0) (Some k.1)) there

  found_from : (k : Bor Text × ℕ) (xs : NamedNumbers) → lookup (is_key_named q) (dedup_from has_same_name k xs) ≡ lookup (is_key_named q) (k ∷ xs)
  found_from k [] = refl
  found_from k (x ∷ xs) = one_of (has_same_name x k) k x xs refl (found_from k xs) (found_from x xs)

  pub found_once : (xs : NamedNumbers) → lookup (is_key_named q) (dedup has_same_name xs) ≡ lookup (is_key_named q) xs
  found_once [] = refl
  found_once (x ∷ xs) = found_from x xs

  found_in_both : (xs ys : NamedNumbers) → lookup (is_key_named q) (xs ++ ys) ≡ option_or (lookup (is_key_named q) xs) (lookup (is_key_named q) ys)
  found_in_both [] ys = refl
  found_in_both (x ∷ xs) ys = ap (cond (is_key_named q x.0) (Some x.1)) (found_in_both xs ys)
      ∙ sym (or_choice (is_key_named q x.0) (is_key_named q x.0) x.1 (lookup (is_key_named q) xs) (lookup (is_key_named q) ys) refl)

-- sorted names without duplicates are strictly increasing
pub rising_once : (xs : NamedNumbers) → IsSortedByKey (λ b. b.0) (λ x y. slice_cmp nat_cmp x.now y.now) xs → AreRisingNames (dedup has_same_name xs)
rising_once xs sorted =
    IsStrictlySortedBy-dedup (on_total (λ (b : Bor Text × ℕ). b.0.now) nat_list_cmp_total) (λ a b. sym (is_eq-slice_cmp a.0.now b.0.now)) xs sorted

module _ {X : Type 0} (pair : X → Token × ℕ) (name : X → Bor Text × ℕ) (is : (x : X) → ((pair x).0.lexeme ≡ (name x).0.now) × ((pair x).1 ≡ (name x).1)) where
  -- the last pair of a name is the first in the reversed list
  pub last_first : (xs : List X) (q : Text) → lookup (is_key_named q) (map name (reverse xs)) ≡ last_of (map pair xs) q
  last_first [] q = refl
  last_first (x ∷ xs) q =
      ap (λ l. lookup (is_key_named q) (map name l)) (reverse-append (x ∷ []) xs)
      ∙ ap (lookup (is_key_named q)) (map-append name (reverse xs) (x ∷ []))
      ∙ found_in_both q (map name (reverse xs)) (name x ∷ [])
      ∙ ap (λ o. option_or o (cond (is_key_named q (name x).0) (Some (name x).1) None)) (last_first xs q)
      ∙ ap (λ b. option_or (last_of (map pair xs) q) (cond b (Some (name x).1) None)) (nat_list_eq_equiv.symm q (name x).0.now
      ∙ ap (λ t. bytes_eq t q) (sym (is x).0))
      ∙ ap (λ n. option_or (last_of (map pair xs) q) (cond (bytes_eq (pair x).0.lexeme q) (Some n) None)) (sym (is x).1)
