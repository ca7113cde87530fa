use Rattle.std.proofs.Common.{◌≡◌, take}
use Rattle.just_value.specs.Prelude.{paired}
use Rattle.just_value.proofs.combination.in_pairs.Given as goal

abbrev pub invariant-loop-i : goal.invariant-loop-i
invariant-loop-i l = l.all.items ≡ paired l.separator (take l.i l.xs) (take l.i l.ys)
