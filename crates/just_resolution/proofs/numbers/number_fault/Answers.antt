use Rattle.std.proofs.Common.{◌+◌, ap, map, drop}
use Rattle.std.proofs.lemmas.List.{drop_all}
use Rattle.just_resolution.specs.Prelude.{is_member, parameter_view}
use Rattle.just_resolution.proofs.Numbering.{counts_end, counts_from, counts_off, counts_on}
use Rattle.just_resolution.proofs.Sets.{front}
use Rattle.just_resolution.proofs.numbers.number_fault.Goals as goal

pub loop-name-init : goal.loop-name-init
loop-name-init c = counts_from (is_member c.in_ok-seen.seen) (map parameter_view c.args.numbers.now) c.in_ok-seen.ensures

pub loop-name-preserved : goal.loop-name-preserved
loop-name-preserved c =
    let numbers = c.args.numbers.now in
    let i = c.loop-name.name-index in
    let item = c.loop-name-item.result in
    counts_on (is_member c.loop-name.seen) (parameter_view item) (map parameter_view (drop (i + 1) numbers)) (map parameter_view (drop i numbers))
    (map parameter_view numbers) c.in_ok-insert.field-0
    (ap (map parameter_view) (front numbers i item c.loop-name-test.true c.loop-name-item.is)) c.in_ok-insert.ensures.new c.loop-name.invariant
    (is_member c.insert.new.self) c.if-not-branch.false c.in_ok-insert.ensures.members

pub returns-then-not-branch : goal.returns-then-not-branch
returns-then-not-branch c =
    let numbers = c.args.numbers.now in
    let i = c.loop-name.name-index in
    let item = c.loop-name-item.result in
    counts_off (is_member c.loop-name.seen) (parameter_view item) (map parameter_view (drop (i + 1) numbers)) (map parameter_view (drop i numbers))
    (map parameter_view numbers) c.in_ok-insert.field-0
    (ap (map parameter_view) (front numbers i item c.loop-name-test.true c.loop-name-item.is)) c.in_ok-insert.ensures.new c.loop-name.invariant
    c.if-not-branch.true

pub returns : goal.returns
returns c =
    let numbers = c.args.numbers.now in
    let i = c.loop-name.name-index in
    counts_end (is_member c.loop-name.seen) (map parameter_view (drop i numbers)) (map parameter_view numbers)
    (ap (map parameter_view) (drop_all i numbers c.loop-name-test.false)) c.loop-name.invariant
