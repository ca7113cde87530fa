use Rattle.std.proofs.Common.{◌≡◌, map, take}
use Rattle.just_resolve.proofs.order.numbers_at.Given as goal

-- the numbers of the places so far
abbrev pub invariant-loop-number : goal.invariant-loop-number
invariant-loop-number l = l.numbers.items ≡ map (λ p. p.1) (take l.number-index l.places)
