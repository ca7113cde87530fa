-- Nodes, readers and versions as plain data.
use Rattle.std.specs.Prelude.{Vec, ◌≡◌, ℕ, ◌++◌, List, [], Option, Some, None, map}
use Rattle.std.specs.Option.{option_map}
use Rattle.std.specs.Borrow.{Bor}
use Rattle.std.specs.Map.{lookup}
use Rattle.std.specs.BTreeMap.{BTreeMap, is_at}
use Rattle.std.specs.HashMap.{keys}
use Rattle.just_laws.specs.Cone.{assignment_numbered}
use Rattle.std.specs.Cmp.Lexicographic.{slice_cmp}
use Rattle.std.specs.Ordering.{nat_cmp}
use Rattle.just_syntax.specs.Plain.{Text, Assignment}
use Rattle.just_syntax.specs.View.{assignment_view, function_view, text_numbered}
use Rattle.just_meaning.specs.Reaches.{function_at}
use Rattle.just_syntax.specs.declared.assignment.Assignment as declared
use Rattle.just_changes.specs.declared.readers.Readers.{Readers}
use Rattle.just_changes.specs.declared.version.Version.{Version as Declared}
use Rattle.just_needs.specs.declared.node.Node.{Node}
use Rattle.just_needs.specs.Graph.{PlainNode, OfFunction, OfVariable}
use Rattle.just_needs.specs.View.{nodes_view}
use Rattle.just_changes.specs.Nodes.{Version}

-- the nodes of a list that a look-up found
abbrev pub found_nodes : {A : Type 0} → Option (Vec Node A) → List PlainNode
found_nodes None = []
found_nodes (Some ns) = nodes_view ns.items

abbrev pub readers_of : Readers → PlainNode → List PlainNode
readers_of r (OfFunction name) =
    found_nodes (lookup (is_at (λ (k : Bor Text). slice_cmp nat_cmp name k.now)) r.of_functions.entries)
readers_of r (OfVariable n) = found_nodes (lookup (is_at (nat_cmp n)) r.of_variables.entries)

-- the nodes that have readers
abbrev pub all_read : Readers → List PlainNode
all_read r = map (λ e. OfFunction e.0.now) r.of_functions.entries ++ map (λ e. OfVariable e.0) r.of_variables.entries

-- the first assignment with a number
abbrev pub assignment_in : BTreeMap ℕ (Bor declared.Assignment) → ℕ → Option Assignment
assignment_in all n = option_map (λ a. assignment_view a.now) (lookup (is_at (nat_cmp n)) all.entries)

abbrev pub version_view : Declared → Version
version_view v = record {
  assignment = assignment_in v.numbered;
  function = function_at (map function_view v.functions.now);
  override = text_numbered v.overrides.now;
}

-- a version has the assignments of its file by their numbers
abbrev pub IsWhole : Declared → Type 0
IsWhole v = (n : ℕ) → assignment_in v.numbered n ≡ assignment_numbered (map assignment_view v.assignments.now) n

-- all variables and functions that a version knows
abbrev pub all_nodes : Declared → List PlainNode
all_nodes v = map (λ a. OfVariable a.number) (map assignment_view v.assignments.now)
    ++ map (λ f. OfFunction f.name.lexeme) (map function_view v.functions.now) ++ map OfVariable (keys v.overrides.now)
