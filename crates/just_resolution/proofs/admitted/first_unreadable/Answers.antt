use Rattle.std.proofs.Common.{arith, ◌≡◌, ◌∙◌, ◌++◌, true, false, List, map, ap, sym, Bor, option_map}
use Rattle.std.proofs.lemmas.Bool.{not-false, not-true}
use Rattle.just_resolution.specs.Prelude.{Text, called_names, function_at, function_view, is_name_in, is_number_in, is_readable, name_view}
use Rattle.just_resolution.specs.Prelude.{occurrences_in, texts}
use Rattle.just_resolution.specs.Prelude.{view}
use Rattle.just_meaning.proofs.Names.{name_added}
use Rattle.just_resolution.proofs.Closure.{admits, all_readable, begins, body_reads, closes, emptied, falls_admitted, falls_passed, found_at_once, found_within}
use Rattle.just_resolution.proofs.Closure.{passes, popped, reads_at_once}
use Rattle.just_resolution.proofs.Finding.{some_seen}
use Rattle.just_resolution.proofs.Sets.{no_number}
use Rattle.just_resolution.proofs.admitted.first_unreadable.Goals as goal

pub returns-then-is_some-clause-exact : goal.returns-then-is_some-clause-exact
returns-then-is_some-clause-exact c =
    found_at_once (map function_view c.args.functions.now) (view c.args.expression.now) (is_readable c.args.here.now) (is_readable c.args.readable.now)
    (is_number_in c.new-own.result) (option_map name_view c.in_ok-at_once.at_once)
    (some_seen name_view c.in_ok-at_once.at_once ∙ sym c.if-is_some.ensures) (no_number c.new-own.result c.new-own.ensures.empty) c.in_ok-at_once.ensures.reads

pub loop-name-init : goal.loop-name-init
loop-name-init c =
    let names : texts c.look_through.new.pending.items ≡ called_names (occurrences_in (view c.args.expression.now)) =
    c.in_ok-at_once.ensures.calls (sym c.if-is_some.ensures)
    ∙ ap (λ (bs : List (Bor Text)). texts bs ++ called_names (occurrences_in (view c.args.expression.now))) c.clear.ensures.items in
    begins (map function_view c.args.functions.now) (view c.args.expression.now) (is_readable c.args.here.now) (is_readable c.args.readable.now)
    (is_name_in c.args.admitted.now) (texts c.look_through.new.pending.items) c.requires.closed names
    (reads_at_once (map function_view c.args.functions.now) (view c.args.expression.now) (is_readable c.args.here.now) (is_readable c.args.readable.now)
    (is_number_in c.new-own.result) (option_map name_view c.in_ok-at_once.at_once)
    (some_seen name_view c.in_ok-at_once.at_once ∙ sym c.if-is_some.ensures) (no_number c.new-own.result c.new-own.ensures.empty) c.in_ok-at_once.ensures.reads)

pub loop-name-preserved-then-not-is_new : goal.loop-name-preserved-then-not-is_new
loop-name-preserved-then-not-is_new c =
    let last = popped c.loop-name.pending.items c.pop.new.self.items c.pop.result c.in-Some.name c.pop.ensures.items c.in-Some.is in
    let there : is_name_in c.loop-name.admitted c.in-Some.name.now ≡ true =
    not-false (is_name_in c.loop-name.admitted c.in-Some.name.now) (sym c.in_ok-is_new.ensures.added ∙ c.if-not-is_new.true) in
    passes (map function_view c.args.functions.now) (view c.args.expression.now) (is_readable c.args.here.now) (is_readable c.args.readable.now)
    (is_name_in c.loop-name.admitted) (is_name_in c.insert.new.self) (texts c.pop.new.self.items) c.in-Some.name.now
    (rw last at c.loop-name.invariant) (name_added c.loop-name.admitted c.insert.new.self c.in-Some.name c.in_ok-is_new.ensures.updates.0) there

pub loop-name-smaller-then-not-is_new : goal.loop-name-smaller-then-not-is_new
loop-name-smaller-then-not-is_new c =
    let last = popped c.loop-name.pending.items c.pop.new.self.items c.pop.result c.in-Some.name c.pop.ensures.items c.in-Some.is in
    falls_passed (map function_view c.args.functions.now) (is_name_in c.loop-name.admitted) (is_name_in c.insert.new.self) (texts c.pop.new.self.items)
    (texts c.loop-name.pending.items) c.in-Some.name.now
    (name_added c.loop-name.admitted c.insert.new.self c.in-Some.name c.in_ok-is_new.ensures.updates.0) last

pub loop-name-preserved : goal.loop-name-preserved
loop-name-preserved c =
    let last = popped c.loop-name.pending.items c.pop.new.self.items c.pop.result c.in-Some.name c.pop.ensures.items c.in-Some.is in
    admits (map function_view c.args.functions.now) (view c.args.expression.now) (is_readable c.args.here.now) (is_readable c.args.readable.now)
    (is_name_in c.loop-name.admitted) (is_name_in c.insert.new.self) (texts c.pop.new.self.items)
    (texts c.look_through_function.new.pending.items) c.in-Some.name.now (rw last at c.loop-name.invariant)
    (name_added c.loop-name.admitted c.insert.new.self c.in-Some.name c.in_ok-is_new.ensures.updates.0)
    (body_reads (function_at (map function_view c.args.functions.now) c.in-Some.name.now) (is_readable c.args.readable.now)
    (option_map name_view c.in_ok-beyond.beyond) (some_seen name_view c.in_ok-beyond.beyond ∙ sym c.if-is_some-2.ensures) c.in_ok-beyond.ensures.reads)
    (c.in_ok-beyond.ensures.calls (sym c.if-is_some-2.ensures))

pub loop-name-smaller : goal.loop-name-smaller
loop-name-smaller c =
    let last = popped c.loop-name.pending.items c.pop.new.self.items c.pop.result c.in-Some.name c.pop.ensures.items c.in-Some.is in
    let out : is_name_in c.loop-name.admitted c.in-Some.name.now ≡ false =
    not-true (is_name_in c.loop-name.admitted c.in-Some.name.now) (sym c.in_ok-is_new.ensures.added ∙ c.if-not-is_new.false) in
    falls_admitted (map function_view c.args.functions.now) (is_name_in c.loop-name.admitted) (is_name_in c.insert.new.self) (texts c.pop.new.self.items)
    (texts c.look_through_function.new.pending.items) (texts c.loop-name.pending.items)
    c.in-Some.name.now (name_added c.loop-name.admitted c.insert.new.self c.in-Some.name c.in_ok-is_new.ensures.updates.0) out last
    (c.in_ok-beyond.ensures.calls (sym c.if-is_some-2.ensures))

pub returns-then-is_some-2-clause-exact : goal.returns-then-is_some-2-clause-exact
returns-then-is_some-2-clause-exact c =
    let last = popped c.loop-name.pending.items c.pop.new.self.items c.pop.result c.in-Some.name c.pop.ensures.items c.in-Some.is in
    found_within (map function_view c.args.functions.now) (view c.args.expression.now) (is_readable c.args.here.now) (is_readable c.args.readable.now)
    (is_name_in c.loop-name.admitted) (texts c.pop.new.self.items) (texts c.loop-name.pending.items) c.in-Some.name.now
    (option_map name_view c.in_ok-beyond.beyond) c.loop-name.invariant last (some_seen name_view c.in_ok-beyond.beyond ∙ sym c.if-is_some-2.ensures)
    c.in_ok-beyond.ensures.reads

pub returns-clause-exact : goal.returns-clause-exact
returns-clause-exact c =
    let none = emptied c.loop-name.pending.items c.pop.result c.in_default.is (λ h. c.pop.ensures.variant.1 (omega arith)) in
    all_readable (map function_view c.args.functions.now) (view c.args.expression.now) (is_readable c.args.here.now) (is_readable c.args.readable.now)
    (is_name_in c.loop-name.admitted) (rw none at c.loop-name.invariant)

pub returns-clause-closed : goal.returns-clause-closed
returns-clause-closed c = λ h.
    let none = emptied c.loop-name.pending.items c.pop.result c.in_default.is (λ h. c.pop.ensures.variant.1 (omega arith)) in
    closes (map function_view c.args.functions.now) (view c.args.expression.now) (is_readable c.args.here.now) (is_readable c.args.readable.now)
    (is_name_in c.loop-name.admitted) (rw none at c.loop-name.invariant)
