-- What a called name stands for: a built-in function is not left out, and the test of its number of arguments is right.
use Rattle.std.proofs.Common.{nat_le, ◌≤◌, arith, ◌≡◌, ◌↔◌, ℕ, Bool, true, false, not, cond, List, [], ◌∷◌, Some, bytes_eq, find, length, option_map, refl, sym}
use Rattle.std.proofs.Common.{ap, ◌∙◌}
use Rattle.std.specs.List.{list_all}
use Rattle.std.proofs.lemmas.Bool.{and_parts, and_from, eqb-true, eq-eqb}
use Rattle.std.proofs.lemmas.Bool.Decides.{nat_tests}
use Rattle.std.proofs.lemmas.Slice.Eq.{bytes_eq-Decides}
use Rattle.just_syntax.specs.Plain.{Text}
use Rattle.just_builtins.specs.Shape.{fewest_arguments, most_arguments}
use Rattle.just_builtins.specs.Table.{find_in, function_named, is_among, is_left_out, left_out, table, whole_name}
use Rattle.just_builtins.specs.declared.function.Function.{Function}
use Rattle.just_meaning.specs.Callee.{Callee, Defined, BuiltIn, LeftOut, Unknown, Accepts, accepts, undefined}

at_most : (m n : ℕ) → nat_le m n ≡ true → m ≤ n
at_most m n h = grind (arith, nat_tests)

is_at_most : (m n : ℕ) → m ≤ n → nat_le m n ≡ true
is_at_most m n h = grind (arith, nat_tests)

pub callable : (c : Callee) (n : ℕ) → (accepts c n ≡ true) ↔ Accepts c n
callable (Defined f) n = ((λ h. sym (eqb-true (length f.parameters) n h)), (λ h. eq-eqb (length f.parameters) n (sym h)))
callable (BuiltIn f) n = (
  (λ h. let s = and_parts (nat_le (fewest_arguments f) n) (nat_le n (most_arguments f)) h in
      (at_most (fewest_arguments f) n s.0, at_most n (most_arguments f) s.1)),
  (λ h. and_from (nat_le (fewest_arguments f) n) (nat_le n (most_arguments f)) (is_at_most (fewest_arguments f) n h.0) (is_at_most n (most_arguments f) h.1)),
)
callable LeftOut n = ((λ h. tt), (λ h. refl))
callable Unknown n = ((λ h. absurd (let e : false ≡ true = h in cc)), (λ h. absurd h))

-- ---- a built-in function is not left out

was_false : (b : Bool) → not b ≡ true → b ≡ false
was_false true h = absurd (cc)
was_false false h = refl

-- if no name of a table is among others, no name found in it is
found_apart : (others : List Text) (entries : List (Text × Function)) (name : Text) (f : Function) → list_all (λ e. not (is_among others e.0)) entries ≡ true
    → find_in entries name ≡ Some f → is_among others name ≡ false
found_apart others [] name f all found = absurd (cc)
found_apart others (e ∷ es) name f all found = by (bytes_eq e.0 name) refl found (λ later. found_apart others es name f both.1 later)
  where
    both : (not (is_among others e.0) ≡ true) × (list_all (λ e. not (is_among others e.0)) es ≡ true)
    both = and_parts (not (is_among others e.0)) (list_all (λ e. not (is_among others e.0)) es) all

    by : (b : Bool) → bytes_eq e.0 name ≡ b → option_map (λ entry. entry.1) (cond b (Some e) (find (λ entry. bytes_eq entry.0 name) es)) ≡ Some f
        → (find_in es name ≡ Some f → is_among others name ≡ false) → is_among others name ≡ false
    by true same found later = sym (ap (is_among others) ((bytes_eq-Decides e.0 name).0 same)) ∙ was_false (is_among others e.0) both.0
    by false differs found later = later found

-- a name that the file does not define stands for the built-in function of that name, if there is one
pub built_in_is : (name : Text) (f : Function) → function_named name ≡ Some f → undefined name ≡ BuiltIn f
unfolding function_named is_left_out
built_in_is name f found = rw (found_apart left_out table (whole_name name) f refl found, found) refl
