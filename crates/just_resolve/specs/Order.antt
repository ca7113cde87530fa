-- Orders of assignments.
use Rattle.std.specs.Prelude.{◌≡◌, ◌↔◌, ℕ, true, List, map}
use Rattle.std.specs.List.{AllByRecursion}
use Rattle.just_syntax.specs.Lists.{IsIn}
use Rattle.just_syntax.specs.Plain.{Token, Assignment}
use Rattle.just_meaning.specs.Assignments.{Assignments}
use Rattle.just_meaning.specs.Resolved.{AreDistinct}

-- the names are those of the assignments, each once, in some order
pub record IsOrder (assignments : List Assignment) (names : List Token) : Type 0 where
  pub taken : List Assignment
  pub named : map (λ a. a.name) taken ≡ names
  pub once : AreDistinct (map (λ a. a.number) taken)
  pub same : (a : Assignment) → IsIn taken a ↔ IsIn assignments a

-- the name is that of an assignment with the number
pub record IsNameOf (assignments : List Assignment) (n : ℕ) (name : Token) : Type 0 where
  pub assignment : Assignment
  pub known : IsIn assignments assignment
  pub numbered : assignment.number ≡ n
  pub named : assignment.name ≡ name

-- the names are those of assignments with these numbers, in their order
pub record HasNames (assignments : List Assignment) (numbers : List ℕ) (names : List Token) : Type 0 where
  pub members : List Assignment
  pub known : AllByRecursion (IsIn assignments) members
  pub numbered : map (λ a. a.number) members ≡ numbers
  pub named : map (λ a. a.name) members ≡ names

-- the assignments of a module in an order, all of them referenced
abbrev pub ordered : List Assignment → List Token → Assignments
ordered assignments names = record { all = assignments; order = names; referenced = λ n. true }
