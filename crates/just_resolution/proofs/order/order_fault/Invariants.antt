use Rattle.std.proofs.Common.{◌≡◌, [], map, drop}
use Rattle.just_resolution.specs.Prelude.{frames_view, function_view, is_name_in, is_number_taken, is_readable, name_view, ordered_view}
use Rattle.just_resolution.proofs.Ordering.{IsWalkedTo}
use Rattle.just_resolution.proofs.order.order_fault.Given as goal

-- what is found in the rest of the order is found in all of it
abbrev pub invariant-loop-name : goal.invariant-loop-name
invariant-loop-name l = record {
  outer : frames_view l.readable.outer.now ≡ frames_view l.outer;
  walked : IsWalkedTo (map function_view l.functions) (ordered_view l.assignments [] l.variable_references) (frames_view l.outer) (is_number_taken l.readable)
      (is_readable l.readable) (is_name_in l.admitted)
      (map name_view (drop l.name-index l.evaluation_order)) (map name_view l.evaluation_order);
}
