use Rattle.std.proofs.Common.{map, drop}
use Rattle.just_faults.specs.Prelude.{function_view, module_fault_view, occurrences_view}
use Rattle.just_faults.proofs.Knowing.{ContinuesUnknown}
use Rattle.just_faults.proofs.occurring.add_occurrence_faults.Given as goal

-- what the remaining occurrences add is what all add
abbrev pub invariant-loop-occurrence : goal.invariant-loop-occurrence
invariant-loop-occurrence l =
    ContinuesUnknown (map function_view l.functions) (occurrences_view (drop l.occurrence-index l.occurrences)) (occurrences_view l.occurrences)
    (map module_fault_view l.fn.all.items) (map module_fault_view l.all.items)
