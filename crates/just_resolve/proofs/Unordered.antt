-- With a cycle no order resolves a module.
use Rattle.std.proofs.Common.{◌≡◌, inl, inr, ⊎_elim, ℕ, List, [], ◌∷◌, map, Option, Some, None, refl, ap, sym, ◌∙◌, subst}
use Rattle.std.specs.List.{AllByRecursion}
use Rattle.just_meaning.specs.Reaches.{Reads}
use Rattle.just_meaning.specs.Resolved.{AreInOrder, with_taken}
use Rattle.just_meaning.specs.Assignments.{Assignments, assignment_at}
use Rattle.just_resolve.specs.Prelude.{AreDistinct, Assignment, Frames, Function, IsIn, IsOrder, IsResolved, IsRing, ReadInTurn, Token}
use Rattle.just_resolve.specs.Prelude.{ordered, parameter_numbers}
use Rattle.just_resolve.specs.Hopeless.{AreFoundByName, AreUnbound}
use Rattle.just_resolve.proofs.Indexing.{all_in}
use Rattle.just_syntax.proofs.Lists.{in_map}
use Rattle.just_resolve.proofs.Lookups.{found_there}
use Rattle.just_resolve.proofs.Numbering.{first_distinct}
use Rattle.just_resolve.proofs.Rings.{one_assignment}

module _ (functions : List Function) (all : List Assignment) (outer : Frames) (order : List Token) (members : List Assignment)
    (known : AllByRecursion (IsIn all) members) (distinct : AreDistinct (map (λ (a : Assignment). a.number) all)) (unbound : AreUnbound outer all)
    (next : (a : Assignment) → IsIn members a → (b : Assignment) × IsIn members b × Reads functions a.value b.number) where
  abbrev assignments : Assignments
  assignments = ordered all order

  -- no member of the cycle was taken
  abbrev IsCycleUntaken : List ℕ → Type 0
  IsCycleUntaken taken = (m : Assignment) → IsIn members m → IsIn taken m.number → ⊥

  -- the assignment of a name of the order, if no member was taken before, is no member
  no_member : (taken : List ℕ) (t : Token) (left : List Token) → IsCycleUntaken taken → AreInOrder functions assignments outer taken (t ∷ left)
      → (a : Assignment) → assignment_at assignments t.lexeme ≡ Some a → IsIn members a → ⊥
  no_member taken t left apart h a is m =
      let b = next a m in
      ⊎_elim (λ k. apart b.0 b.1 k) (λ k. unbound b.0 (all_in (IsIn all) members b.0 known b.1) k) (h.0 a is refl b.0.number b.2)

  -- after it no member was taken either
  apart_after : (taken : List ℕ) (t : Token) (left : List Token) → IsCycleUntaken taken → AreInOrder functions assignments outer taken (t ∷ left)
      → (o : Option Assignment) → assignment_at assignments t.lexeme ≡ o → IsCycleUntaken (with_taken assignments o taken)
  apart_after taken t left apart h None is m there k = apart m there k
  apart_after taken t left apart h (Some a) is m there (inl same) =
      let in_all = found_there (λ (b : Assignment). b.name.lexeme) t.lexeme all a is in
      let one : a ≡ m = one_assignment all a m distinct in_all (all_in (IsIn all) members m known there) same in
      no_member taken t left apart h a is (subst (IsIn members) (sym one) there)
  apart_after taken t left apart h (Some a) is m there (inr later) = apart m there later

  -- no name of the order is a member's
  none_named : (taken : List ℕ) (left : List Token) → IsCycleUntaken taken → AreInOrder functions assignments outer taken left
      → (t : Token) → IsIn left t → (m : Assignment) → IsIn members m → assignment_at assignments t.lexeme ≡ Some m → ⊥
  none_named taken [] apart h t there m member is = there
  none_named taken (s ∷ left) apart h t (inl same) m member is =
      no_member taken s left apart h m (ap (λ (u : Token). assignment_at assignments u.lexeme) same ∙ is) member
  none_named taken (s ∷ left) apart h t (inr later) m member is =
      none_named (with_taken assignments (assignment_at assignments s.lexeme) taken) left
      (apart_after taken s left apart h (assignment_at assignments s.lexeme) refl) h.1 t later m member is

-- each assignment of a ring reads another one of it
next_in : (functions : List Function) (members : List Assignment) (first : Assignment) → IsIn members first → (a : Assignment) (rest : List Assignment)
    → ((x : Assignment) → IsIn rest x → IsIn members x) → ReadInTurn functions first.number a rest → (x : Assignment) → IsIn (a ∷ rest) x
    → (b : Assignment) × IsIn members b × Reads functions x.value b.number
next_in functions members first in_first a [] inside h x (inl same) = (first, in_first, subst (λ (y : Assignment). Reads functions y.value first.number) same h)
next_in functions members first in_first a [] inside h x (inr bad) = absurd bad
next_in functions members first in_first a (b ∷ rest) inside h x (inl same) =
    (b, inside b (inl refl), subst (λ (y : Assignment). Reads functions y.value b.number) same h.0)
next_in functions members first in_first a (b ∷ rest) inside h x (inr later) =
    next_in functions members first in_first b rest (λ y k. inside y (inr k)) h.1 x later

pub no_order : (functions : List Function) (all : List Assignment) (outer : Frames) (order : List Token) (members : List Assignment)
    → AllByRecursion (IsIn all) members → IsRing functions members → AreFoundByName all → AreUnbound outer all → IsOrder all order
    → IsResolved functions (ordered all order) outer → ⊥
no_order functions all outer order [] known ring found unbound is_order resolved = ring
no_order functions all outer order (a ∷ rest) known ring found unbound is_order resolved =
    let distinct = first_distinct (map (λ (b : Assignment). b.number) all) (parameter_numbers functions) resolved.distinct in
    let there = (is_order.same a).1 known.0 in
    let named = subst (λ ts. IsIn ts a.name) is_order.named ((in_map (λ (b : Assignment). b.name) is_order.taken a.name).1 (a, there, refl)) in
    none_named functions all outer order (a ∷ rest) known distinct unbound
    (λ x h. next_in functions (a ∷ rest) a (inl refl) a rest (λ y k. inr k) ring x h)
    [] order (λ m h k. k) resolved.in_order a.name named a (inl refl) (found a known.0)
