-- Numbers given to names.
use Rattle.std.proofs.Common.{◌≡◌, ℕ, suc, ◌+◌, List, [], ◌∷◌, ◌++◌, Option, Some, None, refl, sym, ap, ◌∙◌, ⊎_elim, arith, if◌then◌else◌, is_some}
use Rattle.std.proofs.Math.Path.{fun_ext}
use Rattle.std.specs.Cmp.Lexicographic.{nat_list_eq_equiv}
use Rattle.std.specs.Map.{update}
use Rattle.std.specs.Str.{bytes_eq}
use Rattle.std.proofs.lemmas.Bool.{cases_Bool}
use Rattle.std.proofs.lemmas.Slice.Eq.{bytes_eq-Decides}
use Rattle.just_case_reader.specs.Prelude.{KnownNames, Text, number_of, with_names}
use Rattle.just_case_reader.specs.Numbering.{with_numbers, with_name}

-- f and count are what a map holds of the names after one of them is given its number, the old one or the next
module _ (names : KnownNames) (name : Text) (f : Text → Option ℕ) (count given : ℕ) (is_given : given ≡ number_of names name)
    (put : (other : Text) → f other ≡ update bytes_eq names.number name (Some given) other)
    (counted : count ≡ names.count + (if is_some (names.number name) then 0 else 1)) where
  turned : (other : Text) → f other ≡ (if bytes_eq other name then Some given else names.number other)
  turned other = put other ∙ ap (λ same. if same then Some given else names.number other) (nat_list_eq_equiv.symm name other)

  by_number : (o : Option ℕ) → names.number name ≡ o → record { number = f; count = count } ≡ with_name names name
  by_number None new =
      let next : given ≡ names.count = rw (new) at is_given in
      let more : count ≡ suc names.count = omega (arith, rw (new) at counted) in
      rw (new, fun_ext turned, next, more) refl
  by_number (Some k) had =
      let kept : given ≡ k = rw (had) at is_given in
      let as_many : count ≡ names.count = omega (arith, rw (had) at counted) in
      let same : (other : Text) → f other ≡ names.number other =
      λ other. ⊎_elim
      (λ e. let found : f other ≡ Some given = rw (e) at (turned other) in
      found ∙ ap Some kept ∙ sym (ap names.number ((bytes_eq-Decides other name).0 e) ∙ had))
      (λ e. rw (e) at (turned other))
      (cases_Bool (bytes_eq other name)) in
      rw (had, fun_ext same, as_many) refl

  pub numbered : record { number = f; count = count } ≡ with_name names name
  numbered = by_number (names.number name) refl

-- one more name after those so far
with_last : (names : KnownNames) (xs : List Text) (x : Text) → with_names names (xs ++ x ∷ []) ≡ with_name (with_names names xs) x
with_last names [] x = refl
with_last names (y ∷ ys) x = with_last (with_name names y) ys x

last_made : {A : Type 0} (make : Text → ℕ → A) (names : KnownNames) (xs : List Text) (x : Text) → with_numbers make names (xs ++ x ∷ [])
    ≡ with_numbers make names xs ++ make x (number_of (with_names names xs) x) ∷ []
last_made make names [] x = refl
last_made make names (y ∷ ys) x = ap (λ made. make y (number_of names y) ∷ made) (last_made make (with_name names y) ys x)

pub one_more : {A : Type 0} (make : Text → ℕ → A) (names : KnownNames) (xs ys : List Text) (x : Text) (made : List A) (n : ℕ) (had has : KnownNames)
    → (made ≡ with_numbers make names xs) × (had ≡ with_names names xs) → n ≡ number_of had x → has ≡ with_name had x → ys ≡ xs ++ x ∷ []
    → (made ++ make x n ∷ [] ≡ with_numbers make names ys) × (has ≡ with_names names ys)
one_more make names xs ys x made n had has so_far number named more =
    rw (more, last_made make names xs x, with_last names xs x, number, named, so_far.0, so_far.1) (refl, refl)
