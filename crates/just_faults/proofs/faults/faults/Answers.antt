use Rattle.std.proofs.Common.{map}
use Rattle.just_faults.specs.Prelude.{AreFaults, assignments_view, frames_view, functions_view, module_fault_view}
use Rattle.just_faults.proofs.Whole.{all_of, first_of_all, none_if_resolved}
use Rattle.just_faults.proofs.faults.faults.Goals as goal

pub returns : goal.returns
returns c =
    let functions = functions_view c.args.«module».now in
    let assignments = assignments_view c.args.«module».now c.args.variable_references in
    let outer = frames_view c.args.parent.now in
    let all = c.add_order_faults.new.all.items in
    let whole : AreFaults functions assignments outer (map module_fault_view all) =
    all_of functions assignments outer (map module_fault_view c.add_numbering_faults.new.all.items)
    (map module_fault_view c.add_value_faults.new.all.items) (map module_fault_view c.add_body_faults.new.all.items) (map module_fault_view all)
    (rw c.new-all.ensures.items at (c.in_ok-add_numbering_faults.ensures functions assignments)) c.in_ok-add_value_faults.ensures
    c.in_ok-add_body_faults.ensures (rw c.deref.ensures.value at c.in_ok-add_order_faults.ensures) in
    record {
      exact = whole;
      resolved = none_if_resolved functions assignments outer module_fault_view all whole;
      first = λ found rest is. first_of_all functions assignments outer (map module_fault_view all) found rest whole is;
    }
