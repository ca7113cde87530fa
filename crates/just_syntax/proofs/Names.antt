-- Lists of names of variables.
use Rattle.std.proofs.Common.{◌≡◌, ℕ, ◌+◌, ◌<◌, true, false, cond, List, [], ◌∷◌, ◌++◌, length, get_or, take, drop, map, Option, Some, None, Bor, option_map}
use Rattle.std.proofs.Common.{unwrap_or, refl, sym, ap, ◌∙◌}
use Rattle.std.specs.Bool.{nat_eq}
use Rattle.std.specs.List.{list_any}
use Rattle.std.specs.Option.{option_or}
use Rattle.std.proofs.lemmas.List.{map_more}
use Rattle.just_syntax.specs.declared.assignment.Assignment.{Assignment as Declared}
use Rattle.just_syntax.specs.Prelude.{Assignment, Text, assignment_view, first_unknown, given, has_number, number_named, value_at}
use Rattle.just_syntax.proofs.Lists.{rest_from}
use Rattle.just_syntax.proofs.Tables.{seen_at}

-- the number of the assignment that a table finds
pub named : (name : Text) (assignments : List Declared) (found : Option (Bor Declared))
    → option_map (λ a. a.now) found ≡ value_at (λ a. a.name.token.lexeme.now) name assignments
    → option_map (λ a. a.now.number) found ≡ number_named (map assignment_view assignments) name
named name assignments found is = sees found ∙ ap (λ o. option_map (λ a. a.number) (option_map assignment_view o)) is
    ∙ ap (option_map (λ a. a.number)) (sym (seen_at assignment_view (λ a. a.name.lexeme) name assignments))
  where
    sees : (found : Option (Bor Declared)) → option_map (λ a. a.now.number) found
        ≡ option_map (λ a. a.number) (option_map assignment_view (option_map (λ a. a.now) found))
    sees None = refl
    sees (Some a) = refl

module _ {A : Type 0} (name_of : A → Text) (assignments : List Assignment) where
  -- a name that has a variable is skipped
  pub known_on : (xs : List A) (i : ℕ) (x : A) (n : ℕ) → i < length xs → x ≡ get_or xs i x → number_named assignments (name_of x) ≡ Some n
      → first_unknown assignments (map name_of (drop i xs)) ≡ first_unknown assignments (map name_of xs)
      → first_unknown assignments (map name_of (drop (i + 1) xs)) ≡ first_unknown assignments (map name_of xs)
  known_on xs i x n h is known so_far = sym (ap (first_unknown assignments) (rest_from name_of xs i x h is) ∙ rw known refl) ∙ so_far

-- a number is in this list exactly if one of the names has it
pub is_had : (numbered : Text → Option ℕ) (names : List Text) (numbers : List ℕ) → map Some numbers ≡ map numbered names → (n : ℕ)
    → list_any (λ number. nat_eq number n) numbers ≡ list_any (λ name. unwrap_or (option_map (λ m. nat_eq m n) (numbered name)) false) names
is_had numbered [] [] are n = refl
is_had numbered [] (k ∷ ks) are n = absurd cc
is_had numbered (x ∷ xs) [] are n = absurd cc
is_had numbered (x ∷ xs) (k ∷ ks) are n =
    let had : numbered x ≡ Some k = cc in
    let rest : map Some ks ≡ map numbered xs = cc in
    rw (had, is_had numbered xs ks rest n) refl

-- ---- overrides

or_none : {X : Type 0} (o : Option X) → option_or o None ≡ o
or_none None = refl
or_none (Some x) = refl

or_assoc : {X : Type 0} (a b c : Option X) → option_or (option_or a b) c ≡ option_or a (option_or b c)
or_assoc None b c = refl
or_assoc (Some x) b c = refl

-- the text that one pair gives a number
abbrev own : List Assignment → Text × Text → ℕ → Option Text
own assignments p n = cond (has_number assignments n p.0) (Some p.1) None

given-append : (assignments : List Assignment) (ps : List (Text × Text)) (p : Text × Text) (n : ℕ)
    → given assignments (ps ++ p ∷ []) n ≡ option_or (own assignments p n) (given assignments ps n)
given-append assignments [] p n = sym (or_none (own assignments p n))
given-append assignments (q ∷ ps) p n =
    ap (λ o. option_or o (own assignments q n)) (given-append assignments ps p n)
    ∙ or_assoc (own assignments p n) (given assignments ps n) (own assignments q n)

-- the last pair counts
pub given_on : (assignments : List Assignment) (ps : List (Text × Text)) (p : Text × Text) (k n : ℕ) → number_named assignments p.0 ≡ Some k
    → given assignments (ps ++ p ∷ []) n ≡ cond (nat_eq k n) (Some p.1) (given assignments ps n)
given_on assignments ps p k n known = given-append assignments ps p n ∙ rw known (chosen (nat_eq k n))
  where
    chosen : (t : _) → option_or (cond t (Some p.1) None) (given assignments ps n) ≡ cond t (Some p.1) (given assignments ps n)
    chosen true = refl
    chosen false = refl

-- one more pair
pub given_more : {X : Type 0} (seen : X → Text × Text) (assignments : List Assignment) (pairs : List X) (i : ℕ) (pair : X) (k n : ℕ) → i < length pairs
    → pair ≡ get_or pairs i pair → number_named assignments (seen pair).0 ≡ Some k
    → given assignments (map seen (take (i + 1) pairs)) n ≡ cond (nat_eq k n) (Some (seen pair).1) (given assignments (map seen (take i pairs)) n)
given_more seen assignments pairs i pair k n h is known =
    ap (λ ps. given assignments ps n) (map_more seen pairs i pair h ∙ ap (λ x. map seen (take i pairs) ++ seen x ∷ []) (sym is))
    ∙ given_on assignments (map seen (take i pairs)) (seen pair) k n known
