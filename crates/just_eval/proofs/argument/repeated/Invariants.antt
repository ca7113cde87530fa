use Rattle.std.proofs.Common.{◌≡◌}
use Rattle.just_eval.specs.Prelude.{repeated}
use Rattle.just_eval.proofs.argument.repeated.Given as goal

-- the value so far
abbrev pub invariant-loop : goal.invariant-loop
invariant-loop l = l.all ≡ repeated l.counter l.value
