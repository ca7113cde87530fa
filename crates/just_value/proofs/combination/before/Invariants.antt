use Rattle.std.proofs.Common.{◌≡◌, ◌++◌, take, map}
use Rattle.just_value.proofs.combination.before.Given as goal

abbrev pub invariant-loop-x : goal.invariant-loop-x
invariant-loop-x l = l.all.items ≡ map (λ x. (x ++ l.separator) ++ l.y) (take l.x-index l.xs)
