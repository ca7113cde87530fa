use Rattle.std.proofs.Common.{◌≡◌, [], map, drop}
use Rattle.just_faults.specs.Prelude.{frames_view, function_view, is_name_in, is_number_taken, is_readable, module_fault_view, name_view, ordered_view}
use Rattle.just_faults.proofs.Walking.{IsWalkedWithFaults}
use Rattle.just_faults.proofs.order.add_order_faults.Given as goal

-- what the rest of the order adds is what all of it adds
abbrev pub invariant-loop-name : goal.invariant-loop-name
invariant-loop-name l = record {
  outer : frames_view l.readable.outer.now ≡ frames_view l.outer;
  walked : IsWalkedWithFaults (map function_view l.functions) (ordered_view l.assignments [] l.variable_references) (frames_view l.outer)
      (is_number_taken l.readable)
      (is_readable l.readable) (is_name_in l.passed) (is_name_in l.admitted)
      (map name_view (drop l.name-index l.evaluation_order)) (map name_view l.evaluation_order)
      (map module_fault_view l.fn.all.items) (map module_fault_view l.all.items);
}
