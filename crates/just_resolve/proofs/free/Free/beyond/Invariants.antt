use Rattle.std.proofs.Common.{map, take}
use Rattle.just_resolve.specs.Prelude.{AreBelow, parameter_view}
use Rattle.just_resolve.proofs.free.Free.beyond.Given as goal

-- the numbers so far are below the next one
abbrev pub invariant-loop-number : goal.invariant-loop-number
invariant-loop-number l = AreBelow l.next (map (λ p. p.1) (map parameter_view (take l.number-index l.used)))
