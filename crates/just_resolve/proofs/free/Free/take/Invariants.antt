use Rattle.std.proofs.Common.{ℕ, ◌<◌, ◌≤◌}
use Rattle.just_resolve.specs.Prelude.{HasValue, frames_view, value_in}
use Rattle.just_resolve.proofs.free.Free.take.Given as goal

-- the numbers so far are bound
abbrev pub invariant-loop-number : goal.invariant-loop-number
invariant-loop-number l = (k : ℕ) → l.fn.self.next ≤ k → k < l.number → HasValue (value_in (frames_view l.outer)) k
