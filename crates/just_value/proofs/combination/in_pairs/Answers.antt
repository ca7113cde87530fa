use Rattle.std.proofs.Common.{◌<◌, length, arith, add-one}
use Rattle.std.proofs.lemmas.Grind.{common_steps}
use Rattle.just_value.proofs.Pairs.{paired_more}
use Rattle.just_value.proofs.combination.in_pairs.Goals as goal

pub loop-i-preserved : goal.loop-i-preserved
loop-i-preserved c =
    let x : c.loop-i.i < length c.args.xs.now = omega arith in
    let y : c.loop-i.i < length c.args.ys.now = omega arith in
    rw (
      c.in_ok-push.ensures.items,
      add-one,
      c.loop-i.invariant,
      paired_more c.args.separator.now c.args.xs.now
          c.args.ys.now c.loop-i.i c.index-xs-i.result c.index-ys-i.result x y,
    )
    (grind (arith, common_steps))
