use Rattle.std.proofs.Common.{◌≡◌, true, List, [], is_some, map, option_map, subst}
use Rattle.just_resolution.specs.Prelude.{Finds, IsFaulty, IsSound, frames_view, function_view, module_fault_view, name_places, ordered_view}
use Rattle.just_syntax.specs.declared.function_definition.FunctionDefinition.{FunctionDefinition}
use Rattle.just_resolution.proofs.Deciding.{none_answers, order_decided}
use Rattle.just_resolution.proofs.Resolving.{is_resolved_const, refuses}
use Rattle.just_resolution.proofs.resolved_const.resolved_const.Goals as goal

pub order_fault-requires : goal.order_fault-requires
order_fault-requires c = record { distinct = (c.in_ok-are_numbered.ensures.0 c.if-not-branch.false).0 }

pub returns-then-not-branch : goal.returns-then-not-branch
returns-then-not-branch c =
    record { exact = refuses c.in_ok-are_numbered.field-0 c.if-not-branch.true c.in_ok-are_numbered.ensures (λ r. (r.distinct, r.values)) }

pub returns : goal.returns
returns c =
    let ordered = ordered_view c.args.assignments.now c.args.evaluation_order.now c.args.variable_references in
    let outer = frames_view c.args.scope.now in
    let found = subst
    (λ (fs : List FunctionDefinition). Finds (IsSound (map function_view fs) ordered outer) (IsFaulty (map function_view fs) ordered outer)
    (name_places ordered [] ordered.order) (option_map module_fault_view c.in_ok-misplaced.misplaced))
    c.new-functions.ensures c.in_ok-misplaced.ensures in
    let decides = none_answers (is_some c.in_ok-misplaced.misplaced) c.is_none.result c.is_none.ensures
    (order_decided module_fault_view c.in_ok-misplaced.misplaced [] ordered outer ordered.order found) in
    let numbered = c.in_ok-are_numbered.ensures.0 c.if-not-branch.false in
    record { exact = is_resolved_const ordered outer (c.is_none.result ≡ true) numbered.0 numbered.1 decides }
