use Rattle.std.proofs.Common.{arith, take, ◌≡◌}
use Rattle.std.proofs.lemmas.List.{take_all}
use Rattle.just_value.proofs.Placed.{shows_at, shows_nothing}
use Rattle.just_value.proofs.frame.add_places.Goals as goal

pub loop-at-init : goal.loop-at-init
loop-at-init c empty rising = shows_nothing c.args.bindings.now c.args.places.now.entries empty

pub loop-at-preserved : goal.loop-at-preserved
loop-at-preserved c empty rising =
    shows_at c.args.bindings.now c.index-bindings-at.result c.loop-at.at c.loop-at.places.entries c.insert.new.self.entries (omega (arith, c.loop-at-test.true))
    c.index-bindings-at.is rising (c.loop-at.invariant empty rising) c.in_ok-insert.ensures.entries c.insert.ensures.ordered

pub returns : goal.returns
returns c empty rising =
    let all : take c.loop-at.at c.args.bindings.now ≡ c.args.bindings.now = take_all c.loop-at.at c.args.bindings.now (omega (arith, c.loop-at-test.false)) in
    rw all at (c.loop-at.invariant empty rising)
