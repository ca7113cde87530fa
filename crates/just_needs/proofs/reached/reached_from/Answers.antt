use Rattle.std.proofs.Common.{arith, ◌≡◌, ◌∙◌, true, false, sym, subst}
use Rattle.std.proofs.lemmas.Bool.{not-false, not-true}
use Rattle.just_resolution.proofs.Closure.{last_popped, none_popped}
use Rattle.just_needs.specs.Prelude.{is_reached, node_view, nodes_view}
use Rattle.just_needs.proofs.Walk.{AreNodesWalked, begins, ends, falls_on, falls_passed, goes_on, passes}
use Rattle.just_needs.proofs.reached.reached_from.Goals as goal

pub loop-node-init : goal.loop-node-init
loop-node-init g c = begins (g.R.Reads.reads c.args.graph.now) (nodes_view c.args.pending.items) (is_reached c.new-reached.result) c.new-reached.ensures

pub loop-node-preserved-then-not-is_new : goal.loop-node-preserved-then-not-is_new
loop-node-preserved-then-not-is_new g c =
    let last = last_popped node_view c.loop-node.pending.items c.pop.new.self.items c.pop.result c.in-Some.node c.pop.ensures.items c.in-Some.is in
    let there : is_reached c.loop-node.reached (node_view c.in-Some.node) ≡ true =
    not-false (is_reached c.loop-node.reached (node_view c.in-Some.node)) (sym c.in_ok-is_new.ensures.fresh ∙ c.if-not-is_new.true) in
    passes (g.R.Reads.reads c.args.graph.now) (nodes_view c.args.pending.items) (is_reached c.loop-node.reached)
    (is_reached c.insert.new.self) (nodes_view c.pop.new.self.items) (node_view c.in-Some.node)
    (rw last at c.loop-node.invariant) c.in_ok-is_new.ensures.reached there

pub loop-node-smaller-then-not-is_new : goal.loop-node-smaller-then-not-is_new
loop-node-smaller-then-not-is_new g c =
    let last = last_popped node_view c.loop-node.pending.items c.pop.new.self.items c.pop.result c.in-Some.node c.pop.ensures.items c.in-Some.is in
    falls_passed (g.R.Reads.reads c.args.graph.now) (is_reached c.loop-node.reached) (is_reached c.insert.new.self) (node_view c.in-Some.node)
    c.in_ok-is_new.ensures.reached (g.R.Reads.all c.args.graph.now) (nodes_view c.pop.new.self.items) (nodes_view c.loop-node.pending.items) last

pub loop-node-preserved : goal.loop-node-preserved
loop-node-preserved g c =
    let last = last_popped node_view c.loop-node.pending.items c.pop.new.self.items c.pop.result c.in-Some.node c.pop.ensures.items c.in-Some.is in
    subst (AreNodesWalked (g.R.Reads.reads c.args.graph.now) (nodes_view c.args.pending.items) (is_reached c.insert.new.self))
    (sym c.in_ok-add_read_by.ensures.added)
    (goes_on (g.R.Reads.reads c.args.graph.now) (nodes_view c.args.pending.items) (is_reached c.loop-node.reached)
    (is_reached c.insert.new.self) (nodes_view c.pop.new.self.items) (node_view c.in-Some.node)
    (rw last at c.loop-node.invariant) c.in_ok-is_new.ensures.reached)

pub loop-node-smaller : goal.loop-node-smaller
loop-node-smaller g c =
    let last = last_popped node_view c.loop-node.pending.items c.pop.new.self.items c.pop.result c.in-Some.node c.pop.ensures.items c.in-Some.is in
    let out : is_reached c.loop-node.reached (node_view c.in-Some.node) ≡ false =
    not-true (is_reached c.loop-node.reached (node_view c.in-Some.node)) (sym c.in_ok-is_new.ensures.fresh ∙ c.if-not-is_new.false) in
    falls_on (g.R.Reads.reads c.args.graph.now) (is_reached c.loop-node.reached) (is_reached c.insert.new.self) (node_view c.in-Some.node)
    c.in_ok-is_new.ensures.reached (g.R.Reads.all c.args.graph.now) (nodes_view c.pop.new.self.items) (nodes_view c.loop-node.pending.items)
    (nodes_view c.add_read_by.new.nodes.items) c.add_read_by.ensures.all out last c.in_ok-add_read_by.ensures.added

pub returns : goal.returns
returns g c =
    let none = none_popped node_view c.loop-node.pending.items c.pop.result c.in_default.is (λ h. c.pop.ensures.variant.1 (omega arith)) in
    ends (g.R.Reads.reads c.args.graph.now) (nodes_view c.args.pending.items) (is_reached c.loop-node.reached)
    (rw none at c.loop-node.invariant)
