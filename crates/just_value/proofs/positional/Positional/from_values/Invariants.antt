use Rattle.std.proofs.Common.{◌≡◌, map}
use Rattle.just_value.specs.Prelude.{positional, positional_view}
use Rattle.just_value.proofs.positional.Positional.from_values.Given as goal

abbrev pub invariant-loop-value : goal.invariant-loop-value
invariant-loop-value g l = positional_view l.positional ≡ positional (map (λ word. word.now) l.yielded)
