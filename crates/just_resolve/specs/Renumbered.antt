-- Modules whose variables have new numbers.
use Rattle.std.specs.Prelude.{◌≡◌, ℕ, List, [], ◌∷◌, ◌++◌, Option, map}
use Rattle.just_syntax.specs.Plain.{Text, Token, Assignment, Function}
use Rattle.just_value.specs.Frames.{Frames}
use Rattle.just_meaning.specs.Resolved.{parameter_numbers}
use Rattle.just_resolve.specs.Free.{AreFree}
use Rattle.just_resolve.specs.Numbered.{first_named, numbered_expression, visible}

-- the relation holds of the first elements, of the second ones, and so on, and no list is longer
abbrev pub Pairwise : {A B : Type 0} → (A → B → Type 0) → List A → List B → Type 0
Pairwise R [] [] = Unit {0}
Pairwise R (x ∷ xs) (y ∷ ys) = R x y × Pairwise R xs ys
Pairwise R xs ys = ⊥

-- b is a with another number, and with the numbers of names in its value
abbrev pub IsRenumberedAssignment : List (Token × ℕ) → Assignment → Assignment → Type 0
IsRenumberedAssignment names a b =
    b ≡ record a { number = b.number; value = numbered_expression (first_named names) a.value }

-- an assignment with this number, and with the numbers of names in its value
abbrev pub with_number : (Text → Option ℕ) → Assignment × ℕ → Assignment
with_number names d = record d.0 { number = d.1; value = numbered_expression names d.0.value }

-- g is f with other numbers of its parameters, and with the numbers of names in its body, its parameters first
pub record IsRenumberedFunction (names : List (Token × ℕ)) (f g : Function) : Type 0 where
  pub parameters : map (λ p. p.0) g.parameters ≡ map (λ p. p.0) f.parameters
  pub same : g
      ≡ record f { parameters = g.parameters; body = numbered_expression (first_named (g.parameters ++ names)) f.body }

-- The functions and the assignments of a module after others that it had before. Their numbers are the first that no
-- frame binds, those of the assignments first; and each variable has the number that its name has now.
pub record IsRenumbered (outer : Frames) (functions : List Function) (assignments : List Assignment)
    (functions' : List Function) (assignments' : List Assignment) : Type 0 where
  pub numbers : AreFree outer 0 (map (λ a. a.number) assignments' ++ parameter_numbers functions')
  pub values : Pairwise (IsRenumberedAssignment (visible assignments' outer)) assignments assignments'
  pub bodies : Pairwise (IsRenumberedFunction (visible assignments' outer)) functions functions'
