-- What variables and functions read, as a graph.
use Rattle.std.specs.Prelude.{◌≡◌, ◌⊎◌, ◌&&◌, not, nat_eq, ℕ, Bool, List, [], ◌∷◌, map, Option, Some, None}
use Rattle.std.specs.Prelude.{if◌then◌else◌}
use Rattle.std.specs.List.{flat_map, list_any}
use Rattle.just_syntax.specs.Lists.{IsIn}
use Rattle.just_syntax.specs.Plain.{Text, Assignment, Expr, Function}
use Rattle.just_syntax.specs.Occurrences.{CallAt, CommandAt, Occurrence, VariableAt, occurrences_in}
use Rattle.just_meaning.specs.Reaches.{function_at}

-- a variable, or a function of the file by its name
pub data PlainNode : Type 0 where
  OfFunction : Text → PlainNode
  OfVariable : ℕ → PlainNode

-- the functions of a module, the values of each number, and which numbers are followed
pub record PlainGraph : Type 0 where
  pub functions : List Function
  pub values : ℕ → List Expr
  pub is_followed : ℕ → Bool

-- the variable with this number, if there is one that is followed
abbrev pub variable_at : (ℕ → Bool) → Option ℕ → List PlainNode
variable_at is_followed None = []
variable_at is_followed (Some n) = if is_followed n then OfVariable n ∷ [] else []

-- the called function, or the variable if its number is followed
abbrev pub node_at : (ℕ → Bool) → Occurrence → List PlainNode
node_at is_followed (CommandAt t text) = []
node_at is_followed (CallAt t n) = OfFunction t.lexeme ∷ []
node_at is_followed (VariableAt t number) = variable_at is_followed number

-- the nodes at some occurrences
abbrev pub nodes_at : (ℕ → Bool) → List Occurrence → List PlainNode
nodes_at is_followed os = flat_map (node_at is_followed) os

-- the nodes that occur in an expression
abbrev pub nodes_in : (ℕ → Bool) → Expr → List PlainNode
nodes_in is_followed e = nodes_at is_followed (occurrences_in e)

-- whether the number is that of one of the function's parameters
abbrev pub owns : Function → ℕ → Bool
owns f n = list_any (nat_eq n) (map (λ p. p.1) f.parameters)

-- what the body of a function reads beyond its own parameters, if there is one
abbrev pub read_by_body : (ℕ → Bool) → Option Function → List PlainNode
read_by_body is_followed None = []
read_by_body is_followed (Some f) = nodes_in (λ n. is_followed n && not (owns f n)) f.body

-- what a node reads by itself
abbrev pub read_by : PlainGraph → PlainNode → List PlainNode
read_by g (OfFunction name) = read_by_body g.is_followed (function_at g.functions name)
read_by g (OfVariable n) = flat_map (nodes_in g.is_followed) (g.values n)

-- some expressions, or none if a text overrides them
abbrev pub unless_overridden : Option Text → List Expr → List Expr
unless_overridden (Some text) es = []
unless_overridden None es = es

-- the graph in which an overridden variable reads nothing
abbrev pub overridden_graph : (ℕ → Option Text) → PlainGraph → PlainGraph
overridden_graph overrides g = record g { values = λ n. unless_overridden (overrides n) (g.values n) }

-- only these nodes read something
abbrev pub AreAll : (PlainNode → List PlainNode) → List PlainNode → Type 0
AreAll reads all = (x : PlainNode) → IsIn all x ⊎ (reads x ≡ [])

-- some nodes, what they read, what that reads, and so on
pub data IsReadFrom (reads : PlainNode → List PlainNode) (starts : List PlainNode) : PlainNode → Type 0 where
  Starts : {x : PlainNode} → IsIn starts x → IsReadFrom reads starts x
  ReadBy : {x : PlainNode} → (y : PlainNode) → IsReadFrom reads starts y → IsIn (reads y) x → IsReadFrom reads starts x

-- the values of the assignments with a number
abbrev pub values_numbered : List Assignment → ℕ → List Expr
values_numbered assignments n = flat_map (λ a. if nat_eq a.number n then a.value ∷ [] else []) assignments
