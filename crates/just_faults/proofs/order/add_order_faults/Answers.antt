use Rattle.std.proofs.Common.{◌≡◌, ◌∙◌, ◌+◌, [], ap, map, drop, option_map, Bor}
use Rattle.just_faults.specs.Prelude.{frames_view, function_view, is_name_in, is_number_taken, is_readable, module_fault_view, name_view, ordered_view}
use Rattle.std.proofs.lemmas.List.{drop_all}
use Rattle.just_value.specs.declared.scope.Scope.{Scope}
use Rattle.just_meaning.proofs.Names.{no_name}
use Rattle.just_resolution.proofs.Ordering.{begins_with_name, name_at, readable_if}
use Rattle.just_faults.proofs.Walking.{walked_all, walks_from, walks_on}
use Rattle.just_faults.proofs.order.add_order_faults.Goals as goal

pub loop-name-init : goal.loop-name-init
loop-name-init c =
    let same : frames_view c.in_ok-readable.readable.outer.now ≡ frames_view c.args.outer.now =
    ap (λ (s : Bor Scope). frames_view s.now) c.in_ok-readable.ensures.outer in
    record {
      outer = same;
      walked = walks_from (map function_view c.args.functions.now) (ordered_view c.args.assignments.now [] c.args.variable_references)
          (frames_view c.args.outer.now) (is_number_taken c.in_ok-readable.readable) (is_readable c.in_ok-readable.readable) (is_name_in c.new-passed.result)
          (is_name_in c.new-admitted.result) (map name_view c.args.evaluation_order.now) (map module_fault_view c.args.all.now.items)
          c.in_ok-readable.ensures.taken (no_name c.new-passed.result c.new-passed.ensures.empty)
          (no_name c.new-admitted.result c.new-admitted.ensures.empty) (readable_if c.in_ok-readable.readable (frames_view c.args.outer.now) same);
    }

pub take_next-requires : goal.take_next-requires
take_next-requires c = record { passed = c.loop-name.invariant.walked.by_now }

pub loop-name-preserved : goal.loop-name-preserved
loop-name-preserved c =
    let names = c.args.evaluation_order.now in
    let i = c.loop-name.name-index in
    let same : frames_view c.take_next.new.readable.outer.now ≡ frames_view c.args.outer.now =
    ap (λ (s : Bor Scope). frames_view s.now) c.take_next.ensures.outer ∙ c.loop-name.invariant.outer in
    record {
      outer = same;
      walked = walks_on (map function_view c.args.functions.now) (ordered_view c.args.assignments.now [] c.args.variable_references)
          (frames_view c.args.outer.now) (is_number_taken c.loop-name.readable) (is_readable c.loop-name.readable) (is_name_in c.loop-name.passed)
          (is_name_in c.loop-name.admitted) (name_view (name_at names i)) (map name_view (drop i names))
          (map name_view (drop (i + 1) names)) (map name_view names) (map module_fault_view c.args.all.now.items)
          (map module_fault_view c.loop-name.all.items) (begins_with_name names i c.loop-name-test.true) c.loop-name.invariant.walked
          (is_number_taken c.take_next.new.readable) (is_readable c.take_next.new.readable) (is_name_in c.take_next.new.passed)
          (is_name_in c.take_next.new.admitted) (option_map module_fault_view c.in_ok-fault.fault) (map module_fault_view c.add_some.new.all.items)
          c.in_ok-fault.ensures.passed (readable_if c.take_next.new.readable (frames_view c.args.outer.now) same) c.in_ok-fault.ensures.number
          c.in_ok-fault.ensures.exact c.in_ok-add_some.ensures;
    }

pub returns : goal.returns
returns c =
    let names = c.args.evaluation_order.now in
    walked_all (map function_view c.args.functions.now) (ordered_view c.args.assignments.now [] c.args.variable_references) (frames_view c.args.outer.now)
    (is_number_taken c.loop-name.readable) (is_readable c.loop-name.readable) (is_name_in c.loop-name.passed) (is_name_in c.loop-name.admitted)
    (map name_view (drop c.loop-name.name-index names)) (map name_view names) (map module_fault_view c.args.all.now.items)
    (map module_fault_view c.loop-name.all.items) (ap (map name_view) (drop_all c.loop-name.name-index names c.loop-name-test.false))
    c.loop-name.invariant.walked
