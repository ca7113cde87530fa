use Rattle.std.proofs.Common.{◌≡◌, ℕ, take}
use Rattle.std.specs.List.{list_any}
use Rattle.std.specs.Bool.{nat_eq}
use Rattle.just_syntax.proofs.variables.set_of.Given as goal

abbrev pub invariant-loop-number : goal.invariant-loop-number
invariant-loop-number l = (n : ℕ) → list_any (nat_eq n) l.set.keys ≡ list_any (λ number. nat_eq number n) (take l.number-index l.numbers)
