-- Names that begin alike, among strictly increasing names.
use Rattle.std.proofs.Common.{◌≡◌, ℕ, zero, suc, ◌≤◌, true, false, List, [], ◌∷◌, inl, inr, refl, subst, arith, get_or, map, drop, bytes_eq, Bor}
use Rattle.std.specs.Cmp.Lexicographic.{slice_cmp}
use Rattle.std.specs.List.{AllWithin}
use Rattle.std.specs.List.Sorted.{IsPartitionedBy}
use Rattle.std.specs.Ordering.{nat_cmp, ordering_then}
use Rattle.std.specs.declared.cmp.Ordering.{Ordering}
use Rattle.std.specs.declared.cmp.Ordering.TheVariants.{Less, Greater}
use Rattle.std.proofs.lemmas.Bool.{cases_lt, le-ltb, lt-ltb, ltb-true, ne_eqb}
use Rattle.std.proofs.lemmas.Map.Keys.{Less-from_sorted}
use Rattle.just_builtins.specs.Prelude.{Text, begins_below, entry_view, find_in, rises}
use Rattle.just_builtins.proofs.Halving.{by_key, order, sorted}
use Rattle.just_builtins.specs.declared.function.Function.{Function}

-- what is below by its first byte alone is another text
differs : (text name : Text) → begins_below text name ≡ true → bytes_eq text name ≡ false
differs text [] below = absurd (cc)
differs [] (c ∷ cs) below = refl
differs (b ∷ bs) (c ∷ cs) below = rw (ne_eqb b c (λ e. absurd (omega (arith, ltb-true b c below, e)))) refl

less_is_not : Greater ≡ Less → ⊥
less_is_not same = cc

-- the first byte of a lesser text is no greater
no_greater : (a b : ℕ) (rest : Ordering) → ordering_then (nat_cmp a b) rest ≡ Less → a ≤ b
no_greater a b rest less = elim (cases_lt b a) [
  | inl above ↦
      let greater : nat_cmp a b ≡ Greater = rw (le-ltb a b (omega (arith, above)), ne_eqb a b (λ e. absurd (omega (arith, above, e)))) refl in
      absurd (less_is_not (rw greater at less))
  | inr low ↦ low
]

lower : (x y name : Text) → order x y ≡ Less → begins_below y name ≡ true → begins_below x name ≡ true
lower x y [] less below = absurd (cc)
lower [] y (c ∷ cs) less below = refl
lower (a ∷ xs) [] (c ∷ zs) less below = absurd (cc)
lower (a ∷ xs) (b ∷ ys) (c ∷ zs) less below =
    lt-ltb a c (omega (arith, no_greater a b (slice_cmp nat_cmp xs ys) less, ltb-true b c below))

abbrev key : Bor Text × Function → Text
key entry = entry.0.now

-- strictly increasing names are parted by their first bytes
pub parted : (entries : List (Bor Text × Function)) (name : Text) → rises (map key entries) ≡ true
    → IsPartitionedBy (λ entry. begins_below (key entry) name) entries
parted entries name up i j d low within below = elim (cases_lt i j) [
  | inl before ↦ lower _ _ name (Less-from_sorted (by_key key) entries i j d (sorted key entries up) before within) below
  | inr after ↦ let same : j ≡ i = omega arith in subst (λ k. begins_below (key (get_or entries k d)) name ≡ true) same below
]

-- the entries below a name by their first bytes are not looked for
pub passed_over : (entries : List (Bor Text × Function)) (name : Text) (i : ℕ) → AllWithin (λ entry. begins_below (key entry) name ≡ true) entries 0 i
    → find_in (map entry_view entries) name ≡ find_in (map entry_view (drop i entries)) name
passed_over entries name zero below = refl
passed_over [] name (suc i) below = refl
passed_over (entry ∷ entries) name (suc i) below =
    rw (differs (key entry) name (below 0 entry (omega arith) (omega arith)))
    (passed_over entries name i (λ k d lo hi. below (suc k) d (omega arith) (omega arith)))
