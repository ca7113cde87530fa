use Rattle.just_needs.specs.View.{graph_nodes}
use Rattle.just_resolve.specs.Prelude.{OfVariable, entered_in, graph_view, read_by, steps_in}
use Rattle.just_resolve.proofs.Measure.{left_to_do}
use Rattle.just_resolve.proofs.Paths.{IsOnWay}
use Rattle.just_resolve.proofs.Searching.{IsSearched}
use Rattle.just_resolve.proofs.cycle.path_back.Given as goal

abbrev pub invariant-loop-step : goal.invariant-loop-step
invariant-loop-step l = record {
  way : IsOnWay (read_by (graph_view l.graph)) l.start (entered_in l.walk) (steps_in l.walk);
  search : IsSearched (read_by (graph_view l.graph)) (OfVariable l.start) (entered_in l.walk) (steps_in l.walk);
}

abbrev pub decreases-loop-step : goal.decreases-loop-step
decreases-loop-step l = left_to_do (read_by (graph_view l.graph)) (graph_nodes l.graph) (entered_in l.walk) (steps_in l.walk)
