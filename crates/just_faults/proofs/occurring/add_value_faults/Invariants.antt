use Rattle.std.proofs.Common.{map}
use Rattle.just_faults.specs.Prelude.{all_occurrences, assignment_view, function_view, module_fault_view}
use Rattle.just_faults.proofs.Knowing.{ContinuesUnknown}
use Rattle.just_faults.proofs.occurring.add_value_faults.Given as goal

-- what the remaining values add is what all add
abbrev pub invariant-loop-assignment : goal.invariant-loop-assignment
invariant-loop-assignment l =
    ContinuesUnknown (map function_view l.functions) (all_occurrences (map (λ a. a.value) (map assignment_view l.assignment-iterator)))
    (all_occurrences (map (λ a. a.value) (map assignment_view l.assignments))) (map module_fault_view l.fn.all.items) (map module_fault_view l.all.items)
