use Rattle.std.proofs.Common.{map}
use Rattle.just_faults.specs.Prelude.{all_occurrences, function_view, module_fault_view}
use Rattle.just_faults.proofs.Knowing.{ContinuesUnknown}
use Rattle.just_faults.proofs.occurring.add_body_faults.Given as goal

-- what the remaining bodies add is what all add
abbrev pub invariant-loop-function : goal.invariant-loop-function
invariant-loop-function l =
    ContinuesUnknown (map function_view l.functions) (all_occurrences (map (λ f. f.body) (map function_view l.function-iterator)))
    (all_occurrences (map (λ f. f.body) (map function_view l.functions))) (map module_fault_view l.fn.all.items) (map module_fault_view l.all.items)
