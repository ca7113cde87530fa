use Rattle.std.proofs.Common.{◌↔◌, ◌⊎◌, ℕ, IsTrue}
use Rattle.just_changes.specs.Prelude.{IsIn, is_number_in}
use Rattle.just_changes.proofs.changed.rising.Given as goal

-- the numbers so far and the remaining ones are all
abbrev pub invariant-loop-number : goal.invariant-loop-number
invariant-loop-number l = (n : ℕ) → IsIn l.numbers.keys n ↔ (IsTrue (is_number_in l.all n) ⊎ IsIn l.number-iterator n)
