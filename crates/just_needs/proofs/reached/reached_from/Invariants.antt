use Rattle.std.proofs.Common.{◌+◌, length}
use Rattle.just_needs.specs.Prelude.{is_reached, nodes_view}
use Rattle.just_needs.proofs.Walk.{AreNodesWalked, node_work}
use Rattle.just_needs.proofs.reached.reached_from.Given as goal

abbrev pub invariant-loop-node : goal.invariant-loop-node
invariant-loop-node g l = AreNodesWalked (g.R.Reads.reads l.graph) (nodes_view l.fn.pending.items) (is_reached l.reached) (nodes_view l.pending.items)

-- what the nodes that are not reached read, and the number of pending nodes
abbrev pub decreases-loop-node : goal.decreases-loop-node
decreases-loop-node g l = node_work (g.R.Reads.reads l.graph) (g.R.Reads.all l.graph) (is_reached l.reached) + length (nodes_view l.pending.items)
