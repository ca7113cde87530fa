use Rattle.std.proofs.Common.{◌≡◌, ◌++◌, take, map}
use Rattle.just_value.proofs.combination.after.Given as goal

abbrev pub invariant-loop-y : goal.invariant-loop-y
invariant-loop-y l = l.all.items ≡ map (λ y. (l.x ++ l.separator) ++ y) (take l.y-index l.ys)
