-- Tables, maps and sets of numbers after an insertion, as plain data.
use Rattle.std.proofs.Common.{◌≡◌, ℕ, Bool, true, false, cond, ◌||◌, nat_eq, List, [], ◌∷◌, map, refl, ap, ◌∙◌, string_bytes, arith}
use Rattle.std.proofs.lemmas.Bool.Decides.{nat_tests}
use Rattle.std.specs.BTreeMap.{insert_entry}
use Rattle.std.specs.Cmp.Lexicographic.{slice_cmp}
use Rattle.std.specs.Ordering.{match_ordering, nat_cmp}
use Rattle.std.specs.String.{string_cmp}
use Rattle.std.specs.declared.cmp.Ordering.{Ordering}
use Rattle.std.specs.declared.cmp.Ordering.TheVariants.{Less, Equal, Greater}
use Rattle.std.specs.declared.string.String.{String}
use Rattle.just_syntax.specs.Prelude.{Text, pair_view, with_value}

pub map_choice : {X Y : Type 0} (f : X → Y) (o : Ordering) (a b c : List X) → map f (match_ordering o a b c) ≡ match_ordering o (map f a) (map f b) (map f c)
map_choice f Less a b c = refl
map_choice f Equal a b c = refl
map_choice f Greater a b c = refl

-- `f` commutes with the insertion of a value if `f` keeps the keys
pub seen_with : {X Y : Type 0} (f : X → Y) (key : Y → Text) (xs : List X) (x : X) → map f (with_value (λ x. key (f x)) xs x) ≡ with_value key (map f xs) (f x)
seen_with f key [] x = refl
seen_with f key (y ∷ ys) x =
    map_choice f (slice_cmp nat_cmp (key (f x)) (key (f y))) (x ∷ y ∷ ys) (x ∷ ys) (y ∷ with_value (λ x. key (f x)) ys x)
    ∙ ap (λ more. match_ordering (slice_cmp nat_cmp (key (f x)) (key (f y))) (f x ∷ f y ∷ map f ys) (f x ∷ map f ys) (f y ∷ more)) (seen_with f key ys x)

-- a text inserted into a map
pub pairs_with : {A B : Type 0} (es : List (String A × String B)) (k : String A) (v : String B) → map pair_view (insert_entry string_cmp es k v)
    ≡ insert_entry (slice_cmp nat_cmp) (map pair_view es) (string_bytes k) (string_bytes v)
pairs_with [] k v = refl
pairs_with (e ∷ es) k v =
    map_choice pair_view (string_cmp k e.0) ((k, v) ∷ e ∷ es) ((e.0, v) ∷ es) (e ∷ insert_entry string_cmp es k v)
    ∙ ap (λ more. match_ordering (string_cmp k e.0) (map pair_view ((k, v) ∷ e ∷ es)) (map pair_view ((e.0, v) ∷ es)) (pair_view e ∷ more)) (pairs_with es k v)

-- membership in a set after the insertion of the number k
pub number_with : (k n : ℕ) (b : Bool) → cond (nat_eq k n) true b ≡ (nat_eq n k || b)
number_with k n b = by (nat_eq k n) refl
  where
    by : (x : Bool) → nat_eq k n ≡ x → cond x true b ≡ (nat_eq n k || b)
    by true e = let other : nat_eq n k ≡ true = grind (arith, nat_tests) in rw other refl
    by false e = let other : nat_eq n k ≡ false = grind (arith, nat_tests) in rw other refl
