use Rattle.std.proofs.Common.{map}
use Rattle.just_resolution.specs.Prelude.{all_occurrences, function_view}
use Rattle.just_resolution.proofs.Faults.{LeadsUnknown}
use Rattle.just_resolution.proofs.known.bodies_fault.Given as goal

-- what is found in the remaining bodies is found in all
abbrev pub invariant-loop-function : goal.invariant-loop-function
invariant-loop-function l =
    let functions = map function_view l.functions in
    LeadsUnknown functions (all_occurrences (map (λ f. f.body) (map function_view l.function-iterator))) (all_occurrences (map (λ f. f.body) functions))
