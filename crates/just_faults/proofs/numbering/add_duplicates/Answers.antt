use Rattle.std.proofs.Common.{◌≡◌, ◌+◌, ap, map, drop, option_map, IsTrue}
use Rattle.std.proofs.lemmas.List.{drop_all}
use Rattle.just_faults.specs.Prelude.{DuplicateNumber, is_member, module_fault_view, parameter_view}
use Rattle.just_resolution.proofs.Sets.{front}
use Rattle.just_faults.proofs.Adding.{seen_found}
use Rattle.just_faults.proofs.Counting.{counts_end, counts_from, counts_on}
use Rattle.just_faults.proofs.numbering.add_duplicates.Goals as goal

pub loop-name-init : goal.loop-name-init
loop-name-init c =
    counts_from (is_member c.in_ok-seen.seen) (map parameter_view c.args.numbers.now) (map module_fault_view c.args.all.now.items) c.in_ok-seen.ensures

pub loop-name-preserved : goal.loop-name-preserved
loop-name-preserved c =
    let numbers = c.args.numbers.now in
    let i = c.loop-name.name-index in
    let item = c.loop-name-item.result in
    let p = parameter_view item in
    counts_on (is_member c.loop-name.seen) (is_member c.duplicate.new.seen) p (map parameter_view (drop i numbers)) (map parameter_view (drop (i + 1) numbers))
    (map parameter_view numbers) (map module_fault_view c.args.all.now.items) (map module_fault_view c.loop-name.all.items)
    (map module_fault_view c.add_some.new.all.items) (option_map module_fault_view c.in_ok-fault.fault)
    (ap (map parameter_view) (front numbers i item c.loop-name-test.true c.loop-name-item.is)) c.loop-name.invariant
    (seen_found module_fault_view (IsTrue (is_member c.loop-name.seen p.1) → ⊥) (λ f. (DuplicateNumber p.0 ≡ f) × IsTrue (is_member c.loop-name.seen p.1))
    c.in_ok-fault.fault c.in_ok-fault.ensures.exact)
    c.in_ok-fault.ensures.members c.in_ok-add_some.ensures

pub returns : goal.returns
returns c =
    let numbers = c.args.numbers.now in
    let i = c.loop-name.name-index in
    counts_end (is_member c.loop-name.seen) (map parameter_view (drop i numbers)) (map parameter_view numbers) (map module_fault_view c.args.all.now.items)
    (map module_fault_view c.loop-name.all.items) (ap (map parameter_view) (drop_all i numbers c.loop-name-test.false)) c.loop-name.invariant
