use Rattle.std.proofs.Common.{◌≡◌, ◌++◌, take}
use Rattle.just_changes.specs.Prelude.{nodes_view}
use Rattle.just_changes.proofs.readers.push_all.Given as goal

-- the nodes so far
abbrev pub invariant-loop-node : goal.invariant-loop-node
invariant-loop-node l = nodes_view l.nodes.items ≡ nodes_view l.fn.nodes.items ++ nodes_view (take l.node-index l.added)
