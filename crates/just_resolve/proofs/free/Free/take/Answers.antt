use Rattle.std.proofs.Common.{◌≡◌, ◌≤◌, Bor, Option, Some, None, below_more, is_some, option_map, true, sym, subst}
use Rattle.just_value.specs.Value.{Value}
use Rattle.just_resolve.specs.Prelude.{HasValue, frames_view, value_in}
use Rattle.just_resolve.proofs.free.Free.take.Goals as goal

-- a look-up that found something
found : (r : Option (Bor Value)) (o : Option Value) → option_map (λ v. v.now) r ≡ o → is_some r ≡ true → (x : Value) × (o ≡ Some x)
found None o is some = absurd (cc)
found (Some v) o is some = (v.now, sym is)

pub loop-number-preserved : goal.loop-number-preserved
loop-number-preserved c = λ k from below.
    let names = value_in (frames_view c.args.outer.now) in
    let bound : HasValue names c.new.result = found c.value.result (names c.new.result) c.value.ensures (c.if-is_none.ensures) in
    below_more (λ j. c.args.self.now.next ≤ j → HasValue names j) c.loop-number.number (λ j less more. c.loop-number.invariant j more less)
    (λ more. subst (HasValue names) c.new.ensures bound) k below from
