use Rattle.std.proofs.Common.{map, drop}
use Rattle.just_faults.specs.Prelude.{is_member, module_fault_view, parameter_view}
use Rattle.just_faults.proofs.Counting.{IsCountedWithFaults}
use Rattle.just_faults.proofs.numbering.add_duplicates.Given as goal

abbrev pub invariant-loop-name : goal.invariant-loop-name
invariant-loop-name l = IsCountedWithFaults (is_member l.seen) (map parameter_view (drop l.name-index l.numbers)) (map parameter_view l.numbers)
    (map module_fault_view l.fn.all.items) (map module_fault_view l.all.items)
