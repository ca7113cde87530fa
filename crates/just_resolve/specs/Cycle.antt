-- Assignments that depend on themselves.
use Rattle.std.specs.Prelude.{◌≡◌, ℕ, List, [], ◌∷◌, map}
use Rattle.std.specs.List.{AllByRecursion}
use Rattle.just_syntax.specs.Lists.{IsIn}
use Rattle.just_syntax.specs.Plain.{Token, Assignment, Function}
use Rattle.just_meaning.specs.Reaches.{Reads}

-- the assignment reads the next of these, which reads the one after it, and so on; the last one reads the number n
abbrev pub ReadInTurn : List Function → ℕ → Assignment → List Assignment → Type 0
ReadInTurn functions n a [] = Reads functions a.value n
ReadInTurn functions n a (b ∷ rest) = Reads functions a.value b.number × ReadInTurn functions n b rest

-- each of these assignments reads the next one, and the last one reads the first; there is at least one
abbrev pub IsRing : List Function → List Assignment → Type 0
IsRing functions [] = ⊥
IsRing functions (a ∷ rest) = ReadInTurn functions a.number a rest

-- the names are those of assignments that form a cycle
pub record IsCycle (functions : List Function) (assignments : List Assignment) (names : List Token) : Type 0 where
  pub members : List Assignment
  pub named : map (λ a. a.name) members ≡ names
  pub known : AllByRecursion (IsIn assignments) members
  pub ring : IsRing functions members
