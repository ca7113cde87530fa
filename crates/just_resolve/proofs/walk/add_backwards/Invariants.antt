use Rattle.std.proofs.Common.{◌≡◌, ◌++◌, length, map}
use Rattle.just_resolve.specs.Prelude.{all_entered, nodes_view, step_view}
use Rattle.just_resolve.proofs.walk.add_backwards.Given as goal

-- the steps so far, and those of the remaining nodes, are all
abbrev pub invariant-loop-node : goal.invariant-loop-node
invariant-loop-node l = map step_view l.steps.items ++ all_entered (nodes_view l.nodes.items)
    ≡ map step_view l.fn.steps.items ++ all_entered (nodes_view l.fn.nodes.items)

abbrev pub decreases-loop-node : goal.decreases-loop-node
decreases-loop-node l = length (nodes_view l.nodes.items)
