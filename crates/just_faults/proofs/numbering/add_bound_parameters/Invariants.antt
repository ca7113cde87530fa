use Rattle.std.proofs.Common.{List, map, drop}
use Rattle.just_faults.specs.Prelude.{Assignments, Function, IsFaulty, IsSound, frames_view, module_fault_view, parameter_places, parameter_view}
use Rattle.just_faults.proofs.Adding.{Continues}
use Rattle.just_faults.proofs.numbering.add_bound_parameters.Given as goal

-- what the remaining parameters add is what all add
abbrev pub invariant-loop-name : goal.invariant-loop-name
invariant-loop-name l = (functions : List Function) (assignments : Assignments)
    → Continues (IsSound functions assignments (frames_view l.scope)) (IsFaulty functions assignments (frames_view l.scope))
    (parameter_places (map parameter_view (drop l.name-index l.parameters))) (parameter_places (map parameter_view l.parameters))
    (map module_fault_view l.fn.all.items) (map module_fault_view l.all.items)
