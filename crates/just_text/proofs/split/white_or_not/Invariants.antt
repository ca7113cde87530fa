use Rattle.std.specs.Char.{is_whitespace}
use Rattle.std.proofs.Common.{not, slice_index, ℕ, ◌<◌, ◌≡◌, ◌≤◌}
use Rattle.just_text.proofs.split.white_or_not.Given as goal

-- those so far are of the other kind
abbrev pub invariant-loop-at : goal.invariant-loop-at
invariant-loop-at l = (k : ℕ) → l.fn.from ≤ k → k < l.at → is_whitespace (slice_index l.fn.bytes k) ≡ not l.fn.white
