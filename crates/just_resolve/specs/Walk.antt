-- The steps of a walk over the graph of what variables and functions read.
use Rattle.std.specs.Prelude.{◌≡◌, ℕ, List, [], ◌∷◌, map, reverse}
use Rattle.std.specs.List.{flat_map}
use Rattle.just_syntax.specs.Lists.{IsIn}
use Rattle.just_needs.specs.Graph.{PlainNode, OfFunction, OfVariable}

-- a node that is to be entered, or one that was entered and is left after the steps above it
pub data PlainStep : Type 0 where
  Enter : PlainNode → PlainStep
  Leave : PlainNode → PlainStep

-- the numbers of the variables among some nodes
abbrev pub variable_in : PlainNode → List ℕ
variable_in (OfFunction name) = []
variable_in (OfVariable n) = n ∷ []

abbrev pub variables_in : List PlainNode → List ℕ
variables_in nodes = flat_map variable_in nodes

-- the nodes that were entered
abbrev pub entered_node : PlainStep → List PlainNode
entered_node (Enter x) = []
entered_node (Leave x) = x ∷ []

abbrev pub path_in : List PlainStep → List PlainNode
path_in steps = flat_map entered_node steps

-- steps that enter these nodes, the first of them last
abbrev pub all_entered : List PlainNode → List PlainStep
all_entered nodes = map Enter (reverse nodes)

-- each of these nodes reads the next one, and the last one reads x
abbrev pub AreReadInTurn : (PlainNode → List PlainNode) → PlainNode → PlainNode → List PlainNode → Type 0
AreReadInTurn reads x y [] = IsIn (reads y) x
AreReadInTurn reads x y (z ∷ rest) = IsIn (reads y) z × AreReadInTurn reads x z rest

-- these are the variables of a path from a variable back to itself
pub record IsPathBack (reads : PlainNode → List PlainNode) (start : ℕ) (numbers : List ℕ) : Type 0 where
  pub rest : List PlainNode
  pub are : numbers ≡ start ∷ variables_in rest
  pub path : AreReadInTurn reads (OfVariable start) (OfVariable start) rest
