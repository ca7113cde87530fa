use Rattle.std.proofs.Common.{◌↔◌, ℕ, IsTrue, map, take}
use Rattle.just_resolution.specs.Prelude.{IsAmong, is_number_in, parameter_view}
use Rattle.just_resolution.proofs.numbers.own_numbers.Given as goal

-- the numbers of the parameters so far
abbrev pub invariant-loop-number : goal.invariant-loop-number
invariant-loop-number l = (n : ℕ) → IsTrue (is_number_in l.own n) ↔ IsAmong (map parameter_view (take l.number-index l.parameters)) n
