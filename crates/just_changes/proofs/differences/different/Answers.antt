use Rattle.std.proofs.Common.{◌∙◌, ◌++◌, ◌∷◌, [], take, ap, sym, subst}
use Rattle.std.proofs.lemmas.List.{map_more, take_all}
use Rattle.just_changes.specs.Prelude.{IsIn, IsUnchanged, node_view, nodes_view, version_view}
use Rattle.just_changes.proofs.Covered.{differ_more, different_compared, same_compared}
use Rattle.just_changes.proofs.Readings.{both_ways}
use Rattle.just_changes.proofs.differences.different.Goals as goal

pub loop-node-init : goal.loop-node-init
loop-node-init c = record { differ = λ x h same. subst (λ ns. IsIn (nodes_view ns) x) c.new-different.ensures.items h; all = λ x h. absurd h }

pub loop-node-preserved-then-is_same : goal.loop-node-preserved-then-is_same
loop-node-preserved-then-is_same c =
    let item = c.node-item.result in
    let i = c.loop-node.node-index in
    record {
      differ = c.loop-node.invariant.differ;
      all = same_compared (IsUnchanged (version_view c.args.before.now) (version_view c.args.after.now)) (nodes_view (take i c.args.nodes.now))
          (nodes_view c.loop-node.different.items) (node_view item) c.loop-node.invariant.all (c.is_same.ensures.0 c.if-is_same.true) _
          (map_more node_view c.args.nodes.now i item c.loop-node-test.true ∙ ap (λ y. nodes_view (take i c.args.nodes.now) ++ node_view y ∷ [])
          (sym c.node-item.is));
    }

pub loop-node-preserved : goal.loop-node-preserved
loop-node-preserved c =
    let item = c.node-item.result in
    let i = c.loop-node.node-index in
    let S = IsUnchanged (version_view c.args.before.now) (version_view c.args.after.now) in
    record {
      differ = differ_more S (nodes_view c.loop-node.different.items) (nodes_view c.push.new.nodes.items) (node_view item) c.in_ok-push.ensures
          (λ same. both_ways c.is_same.result c.if-is_same.false (c.is_same.ensures.1 same)) c.loop-node.invariant.differ;
      all = different_compared S (nodes_view (take i c.args.nodes.now)) (nodes_view c.loop-node.different.items) (node_view item) c.loop-node.invariant.all _
          (nodes_view c.push.new.nodes.items)
          (map_more node_view c.args.nodes.now i item c.loop-node-test.true ∙ ap (λ y. nodes_view (take i c.args.nodes.now) ++ node_view y ∷ [])
          (sym c.node-item.is)) c.in_ok-push.ensures;
    }

pub returns : goal.returns
returns c = record {
  differ = c.loop-node.invariant.differ;
  all = λ x h. c.loop-node.invariant.all x
      (subst (λ ns. IsIn (nodes_view ns) x) (sym (take_all c.loop-node.node-index c.args.nodes.now c.loop-node-test.false)) h);
}
