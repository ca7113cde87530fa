use Rattle.std.proofs.lemmas.Result.{IfOk-weaker}
use Rattle.just_changes.specs.Prelude.{nodes_view, readers_of}
use Rattle.just_changes.proofs.changed.touched_between.Goals as goal

pub returns : goal.returns
returns c = IfOk-weaker c.reached_from.result _ _
    (λ touched reached. record {
      readers = readers_of c.in_ok-readers.readers;
      read = c.in_ok-readers.ensures;
      starts = nodes_view c.in_ok-nodes.nodes.items;
      differ = c.in_ok-nodes.ensures.differ;
      all = c.in_ok-nodes.ensures.all;
      reached = reached;
    }) c.reached_from.ensures
