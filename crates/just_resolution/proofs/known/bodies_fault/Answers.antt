use Rattle.std.proofs.Common.{◌∙◌, map, sym}
use Rattle.just_resolution.specs.Prelude.{function_view, module_fault_view}
use Rattle.just_resolution.proofs.Faults.{occurrences_left, unknown_out, unknown_past}
use Rattle.just_resolution.proofs.Finding.{some_seen}
use Rattle.just_resolution.proofs.known.bodies_fault.Goals as goal

pub returns-then-is_some : goal.returns-then-is_some
returns-then-is_some c =
    unknown_out (map function_view c.args.functions.now) _ _ _ _ _ c.loop-function.invariant
    (occurrences_left function_view (λ x. x.body) c.loop-function.function-iterator c.next.new.self _ _ c.in-Some.is c.next.ensures.steps)
    c.in_ok-fault.ensures (some_seen module_fault_view c.in_ok-fault.fault ∙ sym c.if-is_some.ensures)

pub loop-function-preserved : goal.loop-function-preserved
loop-function-preserved c =
    unknown_past (map function_view c.args.functions.now) _ _ _ _ _ c.loop-function.invariant
    (occurrences_left function_view (λ x. x.body) c.loop-function.function-iterator c.next.new.self _ _ c.in-Some.is c.next.ensures.steps)
    c.in_ok-fault.ensures (some_seen module_fault_view c.in_ok-fault.fault ∙ sym c.if-is_some.ensures)
