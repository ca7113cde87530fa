use Rattle.std.proofs.Common.{◌≡◌, ◌++◌, map, take}
use Rattle.std.specs.List.{flat_map}
use Rattle.std.specs.Option.{option_to_list}
use Rattle.just_resolution.specs.Fault.{occurrence_fault}
use Rattle.just_resolution.specs.Prelude.{module_fault_view, occurrence_view}
use Rattle.just_syntax.specs.View.{function_view}
use Rattle.just_recipe.proofs.faults.add_faults.Given as goal

-- the faults of the occurrences so far were added
abbrev pub invariant-loop-occurrence : goal.invariant-loop-occurrence
invariant-loop-occurrence l = map module_fault_view l.faults.items ≡ map module_fault_view l.initial.faults.items
    ++ flat_map (λ o. option_to_list (occurrence_fault (map function_view l.functions) o))
    (map occurrence_view (take l.occurrence-index l.occurrence-items))
