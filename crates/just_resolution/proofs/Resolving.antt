-- What the parts of a test decide.
use Rattle.std.proofs.Common.{◌≡◌, ◌↔◌, ◌++◌, ◌⊎◌, ℕ, List, [], map, Bool, true, false}
use Rattle.just_resolution.specs.Prelude.{AllKnown, AllNumbered, AllReadable, AreAssignments, AreDistinct, AreInOrder, AreReadableInTurn, Assignment}
use Rattle.just_resolution.specs.Prelude.{Assignments, Expr, Frames, Function, HasValue, IsIn, IsResolved, IsResolvedConst, Parameter}
use Rattle.just_resolution.specs.Prelude.{Token, attribute_expressions, parameter_expressions, parameter_numbers, value_in}
use Rattle.just_syntax.specs.Plain.{Attribute}
use Rattle.just_meaning.specs.Here.{IsResolvedHere}

-- a part that does not hold refuses the whole
pub refuses : {P R : Type 0} (b : Bool) → b ≡ false → (b ≡ true) ↔ P → (R → P) → (false ≡ true) ↔ R
refuses b off decides implies = (
  (λ h. absurd (cc)),
  (λ r. absurd (let e : b ≡ true = decides.1 (implies r) in cc)),
)

-- if all the other parts hold, the order decides
pub is_resolved : (functions : List Function) (assignments : Assignments) (outer : Frames) (A : Type 0)
    → AreDistinct (map (λ a. a.number) assignments.all ++ parameter_numbers functions) →
    ((n : ℕ) → IsIn (parameter_numbers functions) n → HasValue (value_in outer) n → ⊥) → AllKnown functions (map (λ a. a.value) assignments.all)
    → AllKnown functions (map (λ f. f.body) functions) →
    A ↔ (AreAssignments assignments assignments.order × AreInOrder functions assignments outer [] assignments.order)
    → A ↔ IsResolved functions assignments outer
is_resolved functions assignments outer A distinct unbound values bodies order = (
  (λ a. let h = order.0 a in record { distinct = distinct; unbound = unbound; values = values; bodies = bodies; named = h.0; in_order = h.1 }),
  (λ r. order.1 (r.named, r.in_order)),
)

-- the same before any run
pub is_resolved_const : (assignments : Assignments) (outer : Frames) (A : Type 0) → AreDistinct (map (λ a. a.number) assignments.all)
    → AllNumbered (map (λ a. a.value) assignments.all) →
    A ↔ (AreAssignments assignments assignments.order × AreInOrder [] assignments outer [] assignments.order) → A ↔ IsResolvedConst assignments outer
is_resolved_const assignments outer A distinct values order = (
  (λ a. let h = order.0 a in record { distinct = distinct; values = values; named = h.0; in_order = h.1 }),
  (λ r. order.1 (r.named, r.in_order)),
)

-- for a recipe: if all the other parts hold, what is read decides
pub is_resolved_here : (functions : List Function) (assignments : List Assignment) (base frames : Frames) (attributes : List (Attribute × Token))
    (parameters : List Parameter) (expressions : List Expr) (A : Type 0) →
    AreDistinct (map (λ a. a.number) assignments ++ parameter_numbers functions ++ map (λ p. p.number) parameters) →
    ((n : ℕ) → IsIn (parameter_numbers functions ++ map (λ p. p.number) parameters) n → HasValue (value_in frames) n ⊎ HasValue (value_in base) n → ⊥)
    → AllKnown functions (map (λ f. f.body) functions) →
    A ↔ (AllKnown functions (attribute_expressions attributes ++ parameter_expressions parameters ++ expressions)
    × AllReadable functions (value_in base) (HasValue (value_in frames)) (attribute_expressions attributes ++ expressions)
    × AreReadableInTurn functions (value_in base) (value_in frames) [] parameters) →
    A ↔ IsResolvedHere functions assignments base frames attributes parameters expressions
is_resolved_here functions assignments base frames attributes parameters expressions A distinct unbound bodies all = (
  (λ a. let h = all.0 a in record { distinct = distinct; unbound = unbound; known = h.0; bodies = bodies; readable = h.1; in_turn = h.2 }),
  (λ r. all.1 (r.known, r.readable, r.in_turn)),
)
