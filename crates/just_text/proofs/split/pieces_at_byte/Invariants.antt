use Rattle.std.specs.List.{slice_split}
use Rattle.std.proofs.Common.{◌-◌, drop, false, true, IsCharBoundary, ◌++◌, length, slice_index, ℕ, ◌<◌, ◌==◌, ◌≡◌, ◌≤◌}
use Rattle.just_text.proofs.split.pieces_at_byte.Given as goal

-- the pieces so far, and then those of the rest, are all pieces
abbrev pub invariant-loop-at : goal.invariant-loop-at
invariant-loop-at l = record {
  low : l.start ≤ l.at;
  high : l.at ≤ length l.fn.text;
  boundary : IsCharBoundary l.fn.text l.start;
  lacks : (k : ℕ) → l.start ≤ k → k < l.at → (slice_index l.fn.text k == l.fn.separator) ≡ false;
  found : l.at < length l.fn.text → (slice_index l.fn.text l.at == l.fn.separator) ≡ true;
  done : l.all.items ++ slice_split (λ b. b == l.fn.separator) (drop l.start l.fn.text)
      ≡ slice_split (λ b. b == l.fn.separator) l.fn.text;
}

abbrev pub decreases-loop-at : goal.decreases-loop-at
decreases-loop-at l = length l.bytes - l.at
