use Rattle.std.proofs.Common.{◌∙◌, sym, option_map}
use Rattle.std.proofs.lemmas.Result.{IfOk-weaker}
use Rattle.just_resolution.specs.Prelude.{assignments_view, frames_view, functions_view, module_fault_view}
use Rattle.just_resolution.proofs.Faults.{distinct_assignments, first_body, first_name, first_numbering, first_value, determined}
use Rattle.just_resolution.proofs.Finding.{some_seen}
use Rattle.just_resolution.proofs.first_fault.first_fault.Goals as goal

pub returns-then-is_some : goal.returns-then-is_some
returns-then-is_some c =
    let functions = functions_view c.args.«module».now in
    let assignments = assignments_view c.args.«module».now c.args.variable_references in
    let outer = frames_view c.args.parent.now in
    let numbering = c.in_ok-numbering.numbering in
    let all = determined functions assignments outer module_fault_view numbering
    (first_numbering functions assignments outer (option_map module_fault_view numbering) (some_seen module_fault_view numbering ∙ sym c.if-is_some.ensures)
    (c.in_ok-numbering.ensures functions assignments)) in
    record { exact = all.0; first = all.1 }

pub returns-then-is_some-2 : goal.returns-then-is_some-2
returns-then-is_some-2 c =
    let functions = functions_view c.args.«module».now in
    let assignments = assignments_view c.args.«module».now c.args.variable_references in
    let outer = frames_view c.args.parent.now in
    let numbering = c.in_ok-numbering.numbering in
    let value = c.in_ok-value.value in
    let all = determined functions assignments outer module_fault_view value
    (first_value functions assignments outer (option_map module_fault_view numbering) (some_seen module_fault_view numbering ∙ sym c.if-is_some.ensures)
    (c.in_ok-numbering.ensures functions assignments)
    (option_map module_fault_view value) (some_seen module_fault_view value ∙ sym c.if-is_some-2.ensures) c.in_ok-value.ensures) in
    record { exact = all.0; first = all.1 }

pub returns-then-is_some-3 : goal.returns-then-is_some-3
returns-then-is_some-3 c =
    let functions = functions_view c.args.«module».now in
    let assignments = assignments_view c.args.«module».now c.args.variable_references in
    let outer = frames_view c.args.parent.now in
    let numbering = c.in_ok-numbering.numbering in
    let value = c.in_ok-value.value in
    let body = c.in_ok-body.body in
    let all = determined functions assignments outer module_fault_view body
    (first_body functions assignments outer (option_map module_fault_view numbering) (some_seen module_fault_view numbering ∙ sym c.if-is_some.ensures)
    (c.in_ok-numbering.ensures functions assignments)
    (option_map module_fault_view value) (some_seen module_fault_view value ∙ sym c.if-is_some-2.ensures) c.in_ok-value.ensures
    (option_map module_fault_view body) (some_seen module_fault_view body ∙ sym c.if-is_some-3.ensures) c.in_ok-body.ensures) in
    record { exact = all.0; first = all.1 }

pub order_fault-requires : goal.order_fault-requires
order_fault-requires c =
    let functions = functions_view c.args.«module».now in
    let assignments = assignments_view c.args.«module».now c.args.variable_references in
    let numbering = c.in_ok-numbering.numbering in
    record {
      distinct = distinct_assignments functions assignments (frames_view c.args.parent.now) (option_map module_fault_view numbering)
          (some_seen module_fault_view numbering ∙ sym c.if-is_some.ensures) (c.in_ok-numbering.ensures functions assignments);
    }

pub returns : goal.returns
returns c =
    let functions = functions_view c.args.«module».now in
    let assignments = assignments_view c.args.«module».now c.args.variable_references in
    let outer = frames_view c.args.parent.now in
    let numbering = c.in_ok-numbering.numbering in
    let value = c.in_ok-value.value in
    let body = c.in_ok-body.body in
    let found = rw c.deref.ensures.value at c.order_fault.ensures in
    record {
      exact = IfOk-weaker c.order_fault.result _ _
          (λ name named. (determined functions assignments outer module_fault_view name
          (first_name functions assignments outer (option_map module_fault_view numbering) (some_seen module_fault_view numbering ∙ sym c.if-is_some.ensures)
          (c.in_ok-numbering.ensures functions assignments)
          (option_map module_fault_view value) (some_seen module_fault_view value ∙ sym c.if-is_some-2.ensures) c.in_ok-value.ensures
          (option_map module_fault_view body) (some_seen module_fault_view body ∙ sym c.if-is_some-3.ensures) c.in_ok-body.ensures
          (option_map module_fault_view name) named)).0) found;
      first = IfOk-weaker c.order_fault.result _ _
          (λ name named. (determined functions assignments outer module_fault_view name
          (first_name functions assignments outer (option_map module_fault_view numbering) (some_seen module_fault_view numbering ∙ sym c.if-is_some.ensures)
          (c.in_ok-numbering.ensures functions assignments)
          (option_map module_fault_view value) (some_seen module_fault_view value ∙ sym c.if-is_some-2.ensures) c.in_ok-value.ensures
          (option_map module_fault_view body) (some_seen module_fault_view body ∙ sym c.if-is_some-3.ensures) c.in_ok-body.ensures
          (option_map module_fault_view name) named)).1) found;
    }
