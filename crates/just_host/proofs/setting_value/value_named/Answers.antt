use Rattle.std.proofs.Common.{◌≡◌, ◌∙◌, true, false, ap, refl, sym}
use Rattle.std.proofs.lemmas.List.{drop_all}
use Rattle.std.specs.Str.{bytes_eq}
use Rattle.just_host.proofs.Entries.{named_among, named_more}
use Rattle.just_host.proofs.setting_value.value_named.Goals as goal

pub loop-key-init : goal.loop-key-init
loop-key-init c = refl

pub returns-then-eq : goal.returns-then-eq
returns-then-eq c =
    let found : bytes_eq c.loop-key-item.result.0.now c.args.name.now ≡ true = cc in
    sym (named_more c.args.name.now c.args.entries.now c.loop-key.key-index c.loop-key-item.result c.loop-key-test.true c.loop-key-item.is true found)
    ∙ c.loop-key.invariant

pub loop-key-preserved : goal.loop-key-preserved
loop-key-preserved c =
    let differs : bytes_eq c.loop-key-item.result.0.now c.args.name.now ≡ false = cc in
    sym (named_more c.args.name.now c.args.entries.now c.loop-key.key-index c.loop-key-item.result c.loop-key-test.true c.loop-key-item.is false differs)
    ∙ c.loop-key.invariant

pub returns : goal.returns
returns c = sym (ap (named_among c.args.name.now) (drop_all c.loop-key.key-index c.args.entries.now c.loop-key-test.false)) ∙ c.loop-key.invariant
