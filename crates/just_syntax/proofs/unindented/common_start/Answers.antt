use Rattle.std.proofs.Common.{ap, arith, take}
use Rattle.just_syntax.proofs.Unindenting.{nothing_common}
use Rattle.just_syntax.proofs.unindented.common_start.Goals as goal

pub returns : goal.returns
returns c =
    let none = nothing_common c.args.left.now c.args.right.now c.loop-i.i (omega arith) in
    ap (λ n. take n c.args.left.now) (omega (arith, none, c.loop-i.invariant))
