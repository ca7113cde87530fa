use Rattle.std.proofs.Common.{◌≡◌, map}
use Rattle.just_value.specs.Prelude.{enclosed}
use Rattle.just_value.proofs.list.ticked.Given as goal

abbrev pub invariant-loop-item : goal.invariant-loop-item
invariant-loop-item g l = map enclosed l.ticked.items ≡ l.yielded
