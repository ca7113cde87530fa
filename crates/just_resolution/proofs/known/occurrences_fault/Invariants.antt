use Rattle.std.proofs.Common.{map, drop}
use Rattle.just_resolution.specs.Prelude.{function_view, occurrences_view}
use Rattle.just_resolution.proofs.Faults.{LeadsUnknown}
use Rattle.just_resolution.proofs.known.occurrences_fault.Given as goal

-- what is found at the remaining occurrences is found at all
abbrev pub invariant-loop-occurrence : goal.invariant-loop-occurrence
invariant-loop-occurrence l =
    LeadsUnknown (map function_view l.functions) (occurrences_view (drop l.occurrence-index l.occurrences)) (occurrences_view l.occurrences)
