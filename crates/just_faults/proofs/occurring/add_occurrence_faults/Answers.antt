use Rattle.std.proofs.Common.{◌+◌, ap, map, drop, option_map}
use Rattle.just_faults.specs.Prelude.{HasFault, IsKnownAt, function_view, module_fault_view, occurrence_view, occurrences_view}
use Rattle.just_resolution.proofs.Sets.{front}
use Rattle.just_faults.proofs.Adding.{continues_on}
use Rattle.just_faults.proofs.Knowing.{at_occurrence}
use Rattle.just_faults.proofs.occurring.add_occurrence_faults.Goals as goal

pub loop-occurrence-preserved : goal.loop-occurrence-preserved
loop-occurrence-preserved c =
    let functions = map function_view c.args.functions.now in
    let all = c.args.occurrences.now in
    let i = c.loop-occurrence.occurrence-index in
    let item = c.occurrence-item.result in
    let fault = option_map module_fault_view c.occurrence_fault-fault.result in
    continues_on (IsKnownAt functions) (HasFault functions) (occurrences_view (drop i all)) (occurrences_view (drop (i + 1) all)) (occurrences_view all)
    (map module_fault_view c.args.all.now.items) (map module_fault_view c.loop-occurrence.all.items)
    c.loop-occurrence.invariant (occurrence_view item) fault (map module_fault_view c.add_some.new.all.items)
    (ap occurrences_view (front all i item c.loop-occurrence-test.true c.occurrence-item.is))
    (at_occurrence functions (occurrence_view item) fault c.occurrence_fault-fault.ensures) c.in_ok-add_some.ensures
