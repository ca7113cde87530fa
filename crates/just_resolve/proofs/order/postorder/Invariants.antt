use Rattle.just_needs.specs.View.{graph_nodes}
use Rattle.just_resolve.specs.Prelude.{entered_in, graph_view, read_by, steps_in}
use Rattle.just_resolve.proofs.Measure.{left_to_do}
use Rattle.just_resolve.proofs.Postorder.{IsOrderedTo}
use Rattle.just_resolve.proofs.Sorting.{IsSortedTo}
use Rattle.just_resolve.proofs.order.postorder.Given as goal

abbrev pub invariant-loop-step : goal.invariant-loop-step
invariant-loop-step l = record {
  order : IsOrderedTo l.starts (entered_in l.walk) (steps_in l.walk) l.left.items;
  sorted : IsSortedTo (read_by (graph_view l.graph)) (entered_in l.walk) (steps_in l.walk) l.left.items;
}

abbrev pub decreases-loop-step : goal.decreases-loop-step
decreases-loop-step l = left_to_do (read_by (graph_view l.graph)) (graph_nodes l.graph) (entered_in l.walk) (steps_in l.walk)
