use Rattle.std.proofs.Common.{map}
use Rattle.just_resolution.specs.Prelude.{all_occurrences, assignment_view, function_view}
use Rattle.just_resolution.proofs.Faults.{LeadsUnknown}
use Rattle.just_resolution.proofs.known.values_fault.Given as goal

-- what is found in the remaining values is found in all
abbrev pub invariant-loop-assignment : goal.invariant-loop-assignment
invariant-loop-assignment l =
    LeadsUnknown (map function_view l.functions) (all_occurrences (map (λ a. a.value) (map assignment_view l.assignment-iterator)))
    (all_occurrences (map (λ a. a.value) (map assignment_view l.assignments)))
