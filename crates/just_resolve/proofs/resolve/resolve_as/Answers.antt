use Rattle.std.proofs.Common.{List, Vec, map, refl, subst, sym}
use Rattle.std.specs.Global.{Global}
use Rattle.just_syntax.specs.declared.assignment.Assignment as assignments
use Rattle.just_syntax.specs.declared.function_definition.FunctionDefinition.{FunctionDefinition}
use Rattle.just_syntax.specs.declared.name.Name.{Name}
use Rattle.just_resolve.specs.Prelude.{IsOrder, IsResolved, IsSortedOrder, assignment_view, cycle_in, fault_in, frames_view, function_view, functions_view}
use Rattle.just_resolve.specs.Prelude.{module_fault_view, name_view, ordered}
use Rattle.just_resolve.proofs.Faulted.{fault_is}
use Rattle.just_resolve.proofs.Reading.{bound_valued}
use Rattle.just_resolve.proofs.Renumbering.{renumbered_distinct}
use Rattle.just_resolve.proofs.Resolving.{circular_from, each_from, fault_from}
use Rattle.just_resolve.proofs.resolve.resolve_as.Goals as goal

pub order-requires : goal.order-requires
order-requires c =
    renumbered_distinct (frames_view c.args.outer.now) (functions_view c.args.«module».now) (functions_view c.args.made.now)
    (map assignment_view c.args.«module».now.assignments) (map assignment_view c.args.made.now.assignments) c.requires

pub explained-requires : goal.explained-requires
explained-requires c =
    let outer = frames_view c.args.outer.now in
    let functions = functions_view c.args.made.now in
    let all = map assignment_view c.args.made.now.assignments in record {
      distinct = renumbered_distinct outer (functions_view c.args.«module».now) functions (map assignment_view c.args.«module».now.assignments) all
          c.requires;
      due = fault_is outer (functions_view c.args.«module».now) functions (map assignment_view c.args.«module».now.assignments) all c.requires
          (λ n h. bound_valued c.args.outer.now n h) (map name_view c.swap.new.x.items) (module_fault_view c.in-Some.fault) c.in_ok-order.ensures.found
          (subst (λ (names : Vec Name Global). IsSortedOrder functions all outer (map name_view names.items)) (sym c.swap.ensures.x_after)
          c.in_ok-order.ensures.sorted)
          (rw c.in-Some.is at c.in_ok-fault.ensures.first);
    }

pub returns-in-Some-clause-circular : goal.returns-in-Some-clause-circular
returns-in-Some-clause-circular c =
    circular_from (frames_view c.args.outer.now) (functions_view c.args.«module».now) (functions_view c.args.made.now)
    (map assignment_view c.args.«module».now.assignments) (map assignment_view c.args.made.now.assignments) c.requires
    (map name_view c.swap.new.x.items) (module_fault_view c.in-Some.fault) (cycle_in c.in_ok-explained.field-0)
    (rw c.in-Some.is at c.in_ok-fault.ensures.first) c.in_ok-explained.ensures.cycle c.in_ok-explained.ensures.untaken

pub returns-in-Some-clause-fault : goal.returns-in-Some-clause-fault
returns-in-Some-clause-fault c =
    let all = map assignment_view c.args.made.now.assignments in
    fault_from (frames_view c.args.outer.now) (functions_view c.args.«module».now) (functions_view c.args.made.now)
    (map assignment_view c.args.«module».now.assignments) all c.requires (map name_view c.swap.new.x.items) (module_fault_view c.in-Some.fault)
    (fault_in c.in_ok-explained.field-0)
    (subst (λ (names : Vec Name Global). IsOrder all (map name_view names.items)) (sym c.swap.ensures.x_after) c.in_ok-order.ensures.order)
    (rw c.in-Some.is at c.in_ok-fault.ensures.first) c.in_ok-explained.ensures.fault

pub returns-in-Some-clause-each_order : goal.returns-in-Some-clause-each_order
returns-in-Some-clause-each_order c =
    each_from (frames_view c.args.outer.now) (functions_view c.args.«module».now) (functions_view c.args.made.now)
    (map assignment_view c.args.«module».now.assignments) (map assignment_view c.args.made.now.assignments) c.requires
    (map name_view c.swap.new.x.items) (module_fault_view c.in-Some.fault) (fault_in c.in_ok-explained.field-0)
    (rw c.in-Some.is at c.in_ok-fault.ensures.first) c.in_ok-explained.ensures.mention c.in_ok-explained.ensures.fault

pub returns-clause-resolved : goal.returns-clause-resolved
returns-clause-resolved c =
    let outer = frames_view c.args.outer.now in
    let functions = c.args.made.now.functions in
    let all = c.args.made.now.assignments in
    let order = c.swap.new.x in
    let resolved : IsResolved (map function_view functions) (ordered (map assignment_view all) (map name_view order.items)) outer =
    c.in_ok-fault.ensures.exact.0 (rw c.in_default.is refl) in
    subst (λ (fs : List FunctionDefinition). IsResolved (map function_view fs)
    (ordered (map assignment_view c.swap-2.new.x) (map name_view c.swap-3.new.x.items)) outer)
    (sym c.swap-4.ensures.x_after)
    (subst (λ (xs : List assignments.Assignment). IsResolved (map function_view functions)
    (ordered (map assignment_view xs) (map name_view c.swap-3.new.x.items)) outer)
    (sym c.swap-2.ensures.x_after)
    (subst (λ (names : Vec Name Global). IsResolved (map function_view functions) (ordered (map assignment_view all) (map name_view names.items)) outer)
    (sym c.swap-3.ensures.x_after) resolved))
