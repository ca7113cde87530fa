use Rattle.std.proofs.Common.{◌≡◌, ◌++◌, ◌&&◌, not, take}
use Rattle.just_needs.specs.Prelude.{is_member, is_number_in, nodes_at, nodes_view, occurrences_view}
use Rattle.just_needs.proofs.graph.add_occurrences.Given as goal

-- the nodes at the occurrences so far were added
abbrev pub invariant-loop-occurrence : goal.invariant-loop-occurrence
invariant-loop-occurrence l = nodes_view l.nodes.items ≡ nodes_view l.fn.nodes.items
    ++ nodes_at (λ n. is_member l.followed n && not (is_number_in l.own n)) (occurrences_view (take l.occurrence-index l.occurrences))
