-- Variables that depend on others, through functions too.
use Rattle.std.specs.Prelude.{◌≡◌, ◌⊎◌, ◌&&◌, not, ℕ, Bool, List, [], ◌∷◌, map, nat_eq, Some}
use Rattle.std.specs.List.{list_any}
use Rattle.std.specs.Option.{is_some}
use Rattle.just_syntax.specs.Lists.{IsIn}
use Rattle.just_syntax.specs.Plain.{Text, Token, Assignment, Function}
use Rattle.just_syntax.specs.Variables.{number_named}
use Rattle.just_value.specs.Frames.{Frames, value_in}
use Rattle.just_needs.specs.Graph.{IsReadFrom, OfVariable, PlainGraph, PlainNode, read_by, values_numbered}
use Rattle.just_resolve.specs.Order.{HasNames}

-- whether the number is that of an assignment and no frame binds it
abbrev pub is_followed_in : List Assignment → Frames → ℕ → Bool
is_followed_in assignments outer n =
    list_any (nat_eq n) (map (λ a. a.number) assignments) && not (is_some (value_in outer n))

-- the graph of what the variables and the functions of a module read
abbrev pub graph_of : List Function → List Assignment → Frames → PlainGraph
graph_of functions assignments outer = record {
  functions = functions;
  values = values_numbered assignments;
  is_followed = is_followed_in assignments outer;
}

-- the variable n reads the variable m, by itself or through functions and other variables
abbrev pub DependsOn : (PlainNode → List PlainNode) → ℕ → ℕ → Type 0
DependsOn reads n m = IsReadFrom reads (reads (OfVariable n)) (OfVariable m)

-- Each of these variables comes after those that it depends on, or it depends on itself. The variables before the first
-- one are given.
abbrev pub AreSorted : (PlainNode → List PlainNode) → List ℕ → List ℕ → Type 0
AreSorted reads before [] = Unit {0}
AreSorted reads before (n ∷ ns) =
    ((m : ℕ) → DependsOn reads n m → IsIn before m ⊎ DependsOn reads n n) × AreSorted reads (n ∷ before) ns

-- the names are those of assignments, and each comes after those that it depends on, or it depends on itself
pub record IsSortedOrder (functions : List Function) (assignments : List Assignment) (outer : Frames)
    (names : List Token) : Type 0 where
  pub numbers : List ℕ
  pub named : HasNames assignments numbers names
  pub sorted : AreSorted (read_by (graph_of functions assignments outer)) [] numbers

-- the assignment with the name depends on itself
abbrev pub DependsOnItself : List Function → List Assignment → Frames → Text → Type 0
DependsOnItself functions assignments outer name = (n : ℕ) × (number_named assignments name ≡ Some n)
    × DependsOn (read_by (graph_of functions assignments outer)) n n
