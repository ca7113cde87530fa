use Rattle.std.proofs.Common.{◌⊎◌, take}
use Rattle.just_changes.specs.Prelude.{IsIn, IsUnchanged, PlainNode, nodes_view, version_view}
use Rattle.just_changes.proofs.differences.different.Given as goal

-- the differing ones so far, and no others
abbrev pub invariant-loop-node : goal.invariant-loop-node
invariant-loop-node l = record {
  differ : (x : PlainNode) → IsIn (nodes_view l.different.items) x → IsUnchanged (version_view l.before) (version_view l.after) x → ⊥;
  all : (x : PlainNode) → IsIn (nodes_view (take l.node-index l.nodes)) x → IsIn (nodes_view l.different.items) x
      ⊎ IsUnchanged (version_view l.before) (version_view l.after) x;
}
