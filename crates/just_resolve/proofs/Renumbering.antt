-- Modules with new numbers.
use Rattle.std.proofs.Common.{◌≡◌, ◌++◌, ℕ, List, Option, map, ap, sym, ◌∙◌, subst}
use mathlib.Core.Path.{fun_ext}
use Rattle.just_resolve.specs.Prelude.{AreDistinct, AreFree, AreTaken, Assignment, Frames, Function, IsRenumbered}
use Rattle.just_resolve.specs.Prelude.{IsRenumberedAssignment}
use Rattle.just_resolve.specs.Prelude.{IsRenumberedFunction, Pairwise, Text, Token, bound_names, first_named, parameter_numbers, visible, with_number}
use Rattle.just_resolve.proofs.Appending.{map_map, pairwise_map}
use Rattle.just_resolve.proofs.Numbering.{first_distinct, free_distinct, taken_append}

-- the assignments and the functions of a module, with their new numbers
pub renumbered_all : (outer : Frames) (functions functions' : List Function) (assignments : List Assignment) (ds : List (Assignment × ℕ))
    (names : Text → Option ℕ) (vs : List (Token × ℕ)) (mid end : ℕ) → map (λ (d : Assignment × ℕ). d.0) ds ≡ assignments
    → AreTaken outer 0 (map (λ (d : Assignment × ℕ). d.1) ds) mid → vs ≡ map (λ (d : Assignment × ℕ). (d.0.name, d.1)) ds
    → ((t : Text) → names t ≡ first_named (vs ++ bound_names outer) t)
    → ((others : List (Token × ℕ)) → ((t : Text) → names t ≡ first_named others t) → Pairwise (IsRenumberedFunction others) functions functions')
    → AreTaken outer mid (parameter_numbers functions') end → IsRenumbered outer functions assignments functions' (map (with_number names) ds)
renumbered_all outer functions functions' assignments ds names vs mid end same taken are named bodies then =
    let numbers : map (λ (a : Assignment). a.number) (map (with_number names) ds) ≡ map (λ (d : Assignment × ℕ). d.1) ds =
    map_map (λ (a : Assignment). a.number) (with_number names) ds in
    let pairs : List (Token × ℕ) = map (λ (a : Assignment). (a.name, a.number)) (map (with_number names) ds) in
    let seen : vs ≡ pairs = are ∙ sym (map_map (λ (a : Assignment). (a.name, a.number)) (with_number names) ds) in
    let here : (t : Text) → names t ≡ first_named (visible (map (with_number names) ds) outer) t =
    λ t. named t ∙ ap (λ (ps : List (Token × ℕ)). first_named (ps ++ bound_names outer) t) seen in record {
      numbers = subst (λ ns. AreFree outer 0 (ns ++ parameter_numbers functions')) (sym numbers)
          (taken_append outer 0 mid end (map (λ (d : Assignment × ℕ). d.1) ds) (parameter_numbers functions') taken then).free;
      values = subst (λ xs. Pairwise (IsRenumberedAssignment (visible (map (with_number names) ds) outer)) xs (map (with_number names) ds)) same
          (pairwise_map (IsRenumberedAssignment (visible (map (with_number names) ds) outer)) (λ (d : Assignment × ℕ). d.0) (with_number names)
          (λ d. ap (λ f. with_number f d) (fun_ext here)) ds);
      bodies = bodies (visible (map (with_number names) ds) outer) here;
    }

-- their numbers are distinct
pub renumbered_distinct : (outer : Frames) (functions functions' : List Function) (assignments assignments' : List Assignment)
    → IsRenumbered outer functions assignments functions' assignments' → AreDistinct (map (λ (a : Assignment). a.number) assignments')
renumbered_distinct outer functions functions' assignments assignments' is =
    first_distinct (map (λ (a : Assignment). a.number) assignments') (parameter_numbers functions')
    (free_distinct outer 0 (map (λ (a : Assignment). a.number) assignments' ++ parameter_numbers functions') is.numbers)
