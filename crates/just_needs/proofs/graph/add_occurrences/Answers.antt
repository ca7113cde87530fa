use Rattle.std.proofs.Common.{◌∙◌, ◌++◌, ◌&&◌, ℕ, Bool, List, ap, not, sym, take}
use Rattle.std.proofs.lemmas.List.{flat_map_more}
use Rattle.just_needs.specs.Prelude.{Occurrence, PlainNode, is_member, is_number_in, node_at, nodes_at, nodes_view, occurrence_view, occurrences_view}
use Rattle.just_resolution.proofs.Sets.{taken_more}
use Rattle.just_needs.proofs.graph.add_occurrences.Goals as goal

pub loop-occurrence-preserved : goal.loop-occurrence-preserved
loop-occurrence-preserved c =
    let test : ℕ → Bool = λ n. is_member c.args.followed.now n && not (is_number_in c.args.own.now n) in
    let occurrences = c.args.occurrences.now in
    let i = c.loop-occurrence.occurrence-index in
    let item = c.occurrence-item.result in
    let before = nodes_view c.args.nodes.now.items in
    c.in_ok-add_occurrence.ensures
    ∙ ap (λ (ns : List PlainNode). ns ++ node_at test (occurrence_view item)) c.loop-occurrence.invariant
    ∙ flat_map_more (node_at test) before (occurrences_view (take i occurrences)) (occurrence_view item)
    ∙ ap (λ (os : List Occurrence). before ++ nodes_at test os)
    (sym (taken_more occurrence_view occurrences i item c.loop-occurrence-test.true c.occurrence-item.is))
