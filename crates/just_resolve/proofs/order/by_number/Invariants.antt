use Rattle.std.proofs.Common.{map}
use Rattle.just_resolve.specs.Prelude.{assignment_view}
use Rattle.just_resolve.proofs.Indexing.{IsIndexed}
use Rattle.just_resolve.proofs.order.by_number.Given as goal

abbrev pub invariant-loop-assignment : goal.invariant-loop-assignment
invariant-loop-assignment l = IsIndexed (map assignment_view l.assignments) (map assignment_view l.assignment-iterator) l.names
