use Rattle.std.proofs.Common.{map}
use Rattle.std.proofs.lemmas.Result.{IfOk-weaker}
use Rattle.just_resolve.specs.Prelude.{assignment_view, frames_view, functions_view}
use Rattle.just_resolve.proofs.Renumbering.{renumbered_distinct}
use Rattle.just_resolve.proofs.name_faults.name_faults.Goals as goal

pub ordered_faults-requires : goal.ordered_faults-requires
ordered_faults-requires c =
    renumbered_distinct (frames_view c.args.outer.now) (functions_view c.args.«module».now) (functions_view c.in_ok-made.made)
    (map assignment_view c.args.«module».now.assignments) (map assignment_view c.in_ok-made.made.assignments) c.in_ok-made.ensures

pub returns : goal.returns
returns c =
    IfOk-weaker c.ordered_faults.result _ _
    (λ all found. record {
      functions' = functions_view c.in_ok-made.made;
      assignments' = map assignment_view c.in_ok-made.made.assignments;
      renumbered = c.in_ok-made.ensures;
      in_some_order = found;
    }) c.ordered_faults.ensures
