use Rattle.std.proofs.Common.{◌≡◌, ◌++◌, take}
use Rattle.std.specs.List.{flat_map}
use Rattle.just_needs.specs.Prelude.{found_values, is_member, nodes_in, nodes_view}
use Rattle.just_needs.proofs.graph.add_all_nodes.Given as goal

-- the nodes in the values so far were added
abbrev pub invariant-loop-assignment : goal.invariant-loop-assignment
invariant-loop-assignment l = nodes_view l.nodes.items ≡ nodes_view l.fn.nodes.items
    ++ flat_map (nodes_in (is_member l.followed)) (found_values (take l.assignment-index l.assignments))
