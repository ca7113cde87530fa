-- Nodes, graphs and sets as plain data.
use Rattle.std.specs.Prelude.{Vec, ℕ, ◌++◌, Bool, List, [], Option, Some, None, map, nat_eq}
use Rattle.std.specs.HashMap.{HashMap}
use Rattle.std.specs.HashSet.{HashSet}
use Rattle.std.specs.List.{list_any}
use Rattle.std.specs.Map.{lookup}
use Rattle.std.specs.declared.string.String.{String}
use Rattle.just_syntax.specs.NameSet.{is_name_in}
use Rattle.just_syntax.specs.NumberSet.{is_member}
use Rattle.just_syntax.specs.Plain.{Expr}
use Rattle.just_syntax.specs.View.{function_view, text_numbered, view}
use Rattle.just_needs.specs.declared.numbered.Valued.{Valued}
use Rattle.just_needs.specs.declared.graph.Graph.{Graph}
use Rattle.just_needs.specs.declared.node.Node.{Node}
use Rattle.just_needs.specs.declared.node.Node.TheVariants as nodes
use Rattle.just_needs.specs.declared.reached.Reached.{Reached}
use Rattle.just_needs.specs.Graph.{PlainGraph, PlainNode, OfFunction, OfVariable, overridden_graph, read_by}

-- whether a number is in a set
abbrev pub has : {S : Type 0} → HashSet ℕ S → ℕ → Bool
has set n = list_any (nat_eq n) set.keys

abbrev pub node_view : Node → PlainNode
node_view (nodes.Function name) = OfFunction name.now
node_view (nodes.Variable n) = OfVariable n

abbrev pub nodes_view : List Node → List PlainNode
nodes_view ns = map node_view ns

-- the values of borrowed assignments
abbrev pub found_values : List Valued → List Expr
found_values assignments = map (λ a. view a.value.now) assignments

-- the values of the assignments that a look-up found
abbrev pub values_looked_up : {A : Type 0} → Option (Vec Valued A) → List Expr
values_looked_up None = []
values_looked_up (Some assignments) = found_values assignments.items

-- the values of the assignments with a number
abbrev pub values_in : {A S : Type 0} → HashMap ℕ (Vec Valued A) S → ℕ → List Expr
values_in all n = values_looked_up (lookup (nat_eq n) all.entries)

abbrev pub graph_view : Graph → PlainGraph
graph_view g = record {
  functions = map function_view g.functions.now;
  values = values_in g.numbered;
  is_followed = is_member g.followed;
}

-- the variables and the functions of a graph
abbrev pub graph_nodes : Graph → List PlainNode
graph_nodes g =
    map (λ e. OfVariable e.0) g.numbered.entries
    ++ map (λ f. OfFunction f.name.lexeme) (map function_view g.functions.now)

-- what a node of the graph reads by itself; an overridden variable reads nothing
abbrev pub read_in : {A S : Type 0} → HashMap ℕ (String A) S → Graph → PlainNode → List PlainNode
read_in overrides g = read_by (overridden_graph (text_numbered overrides) (graph_view g))

abbrev pub is_reached : Reached → PlainNode → Bool
is_reached r (OfFunction name) = is_name_in r.functions name
is_reached r (OfVariable n) = has r.variables n
