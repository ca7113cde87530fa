use Rattle.std.proofs.Common.{◌≡◌, ◌∙◌, ap, arith, length}
use Rattle.just_syntax.specs.Prelude.{separator}
use Rattle.just_value.specs.Outcome.{Gave}
use Rattle.just_value.proofs.Pairs.{applied_paired}
use Rattle.just_value.proofs.value.Value.into_applied.Goals as goal

pub returns-in_default : goal.returns-in_default
returns-in_default c =
    let texts = rw (c.into_elements-in_default.ensures, c.separator-in_default.ensures) at c.in_ok-texts-in_default.ensures in
    let same : length c.args.self ≡ length c.args.others.now = omega (arith, c.if-m-n.true, c.len.ensures) in
    rw (applied_paired (separator c.args.operator) c.args.self c.args.others.now same) (ap Gave (c.from_elements-in_default.ensures ∙ texts))
