use Rattle.std.proofs.Common.{◌∙◌, Bool, List, ℕ, ap, map, not, subst, sym}
use Rattle.just_needs.proofs.Walk.{AddsNode}
use mathlib.Core.Path.{fun_ext}
use Rattle.just_needs.specs.View.{graph_nodes}
use Rattle.just_needs.proofs.Graphs.{are_all}
use Rattle.just_resolve.specs.Prelude.{OfVariable, PlainNode, entered_in, graph_view, node_view, read_by, steps_in}
use Rattle.just_resolve.proofs.Measure.{falls_goes, falls_left}
use Rattle.just_resolve.proofs.Postorder.{IsOrderedTo, order_begins, order_goes, order_leaves, order_once, order_same}
use Rattle.just_resolve.proofs.Sorting.{IsSortedTo, sort_begins, sort_goes, sort_leaves}
use Rattle.just_resolve.proofs.Stepping.{entered_last, left_last, read_followed}
use Rattle.just_resolve.proofs.order.postorder.Goals as goal

pub loop-step-init : goal.loop-step-init
loop-step-init c =
    let reads = read_by (graph_view c.args.graph.now) in
    let entered = entered_in c.in_ok-walk.walk in
    let steps = steps_in c.in_ok-walk.walk in record {
      order = subst (λ (left : List ℕ). IsOrderedTo c.args.starts.now entered steps left) (sym c.new-left.ensures.items)
          (order_begins c.args.starts.now entered steps c.in_ok-walk.ensures.entered c.in_ok-walk.ensures.steps);
      sorted = subst (λ (left : List ℕ). IsSortedTo reads entered steps left) (sym c.new-left.ensures.items)
          (sort_begins reads entered steps (map OfVariable c.args.starts.now) c.in_ok-walk.ensures.entered c.in_ok-walk.ensures.steps);
    }

pub loop-step-preserved-then-step : goal.loop-step-preserved-then-step
loop-step-preserved-then-step c =
    let front = steps_in c.pop.new.self in
    let steps = steps_in c.loop-step.walk in
    let step = c.in-Some.step in
    let last = left_last front steps step c.in-Some.ensures.steps c.if-step.true in record {
      order = order_leaves c.args.starts.now (entered_in c.loop-step.walk) (entered_in c.pop.new.self) front steps c.loop-step.left.items
          (node_view step.node) c.loop-step.invariant.order c.add_variable.new.numbers.items c.pop.ensures.entered last c.in_ok-add_variable.ensures;
      sorted = sort_leaves (read_by (graph_view c.args.graph.now)) c.args.starts.now (entered_in c.loop-step.walk) (entered_in c.pop.new.self) front steps
          c.loop-step.left.items (node_view step.node) c.loop-step.invariant.sorted c.add_variable.new.numbers.items c.loop-step.invariant.order
          c.pop.ensures.entered last c.in_ok-add_variable.ensures;
    }

pub loop-step-preserved : goal.loop-step-preserved
loop-step-preserved c =
    let g = graph_view c.args.graph.now in
    let front = steps_in c.pop.new.self in
    let steps = steps_in c.loop-step.walk in
    let step = c.in-Some.step in
    let x = node_view step.node in
    let left = c.loop-step.left.items in
    let same = sym (fun_ext c.pop.ensures.entered) in
    let last = entered_last front steps step c.in-Some.ensures.steps c.if-step.false in record {
      order = order_goes c.args.starts.now (entered_in c.pop.new.self) (entered_in c.enter.new.self) front steps (steps_in c.enter.new.self) left x
          (read_by g x) c.in_ok-enter.field-0
          (subst (λ (e : PlainNode → Bool). IsOrderedTo c.args.starts.now e steps left) same c.loop-step.invariant.order) c.in_ok-enter.ensures.entered last
          (λ n h. c.requires n (read_followed g x n h)) c.in_ok-enter.ensures.fresh c.in_ok-enter.ensures.steps;
      sorted = sort_goes (read_by g) c.args.starts.now (entered_in c.pop.new.self) (entered_in c.enter.new.self) front steps (steps_in c.enter.new.self)
          left x c.in_ok-enter.field-0
          (subst (λ (e : PlainNode → Bool). IsSortedTo (read_by g) e steps left) same c.loop-step.invariant.sorted) c.in_ok-enter.ensures.entered last
          c.in_ok-enter.ensures.fresh c.in_ok-enter.ensures.steps;
    }

pub loop-step-smaller-then-step : goal.loop-step-smaller-then-step
loop-step-smaller-then-step c =
    let front = steps_in c.pop.new.self in
    let steps = steps_in c.loop-step.walk in
    let step = c.in-Some.step in
    falls_left (read_by (graph_view c.args.graph.now)) (graph_nodes c.args.graph.now) (entered_in c.loop-step.walk) (entered_in c.pop.new.self) front steps
    (node_view step.node) c.pop.ensures.entered (left_last front steps step c.in-Some.ensures.steps c.if-step.true)

pub loop-step-smaller : goal.loop-step-smaller
loop-step-smaller c =
    let g = graph_view c.args.graph.now in
    let front = steps_in c.pop.new.self in
    let steps = steps_in c.loop-step.walk in
    let step = c.in-Some.step in
    let x = node_view step.node in
    let adds = subst (λ (e : PlainNode → Bool). AddsNode e (entered_in c.enter.new.self) x) (fun_ext c.pop.ensures.entered) c.in_ok-enter.ensures.entered in
    falls_goes (read_by g) (graph_nodes c.args.graph.now) (entered_in c.loop-step.walk) (entered_in c.enter.new.self) front steps (steps_in c.enter.new.self) x
    c.in_ok-enter.field-0 adds (are_all c.args.graph.now) (entered_last front steps step c.in-Some.ensures.steps c.if-step.false)
    (c.in_ok-enter.ensures.fresh ∙ ap not (c.pop.ensures.entered x)) c.in_ok-enter.ensures.steps

pub returns-clause-once : goal.returns-clause-once
returns-clause-once c =
    order_once c.args.starts.now (entered_in c.loop-step.walk) (steps_in c.loop-step.walk) c.loop-step.left.items c.loop-step.invariant.order
    (rw c.in_default.is at c.pop.ensures.steps)

pub returns-clause-same : goal.returns-clause-same
returns-clause-same c =
    order_same c.args.starts.now (entered_in c.loop-step.walk) (steps_in c.loop-step.walk) c.loop-step.left.items c.loop-step.invariant.order
    (rw c.in_default.is at c.pop.ensures.steps)

pub returns-clause-sorted : goal.returns-clause-sorted
returns-clause-sorted c = c.loop-step.invariant.sorted.sorted
