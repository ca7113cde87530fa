use Rattle.std.proofs.Common.{map}
use Rattle.just_faults.specs.Prelude.{HasFault, IsKnownAt, assignment_view, function_view}
use Rattle.just_resolution.proofs.Faults.{occurrences_left}
use Rattle.just_faults.proofs.Adding.{continues_past}
use Rattle.just_faults.proofs.occurring.add_value_faults.Goals as goal

pub loop-assignment-preserved : goal.loop-assignment-preserved
loop-assignment-preserved c =
    let functions = map function_view c.args.functions.now in
    continues_past (IsKnownAt functions) (HasFault functions) _ _ _ _ _ c.loop-assignment.invariant _ _
    (occurrences_left assignment_view (λ x. x.value) c.loop-assignment.assignment-iterator c.next.new.self _ _ c.in-Some.is c.next.ensures.steps)
    c.in_ok-add_expression_faults.ensures
