use Rattle.std.proofs.Common.{◌-◌, drop, IsCharBoundary, false, flat_map, length, slice_index, string_bytes, true, ℕ, ◌++◌, ◌<◌, ◌==◌, ◌≡◌, ◌≤◌}
use Rattle.just_text.specs.Prelude.{substituted}
use Rattle.just_text.proofs.replace.push_substituted.Given as goal

-- what is appended so far, and then the rest with the byte substituted, is the whole
abbrev pub invariant-loop-at : goal.invariant-loop-at
invariant-loop-at l = record {
  low : l.start ≤ l.at;
  high : l.at ≤ length l.fn.text;
  boundary : IsCharBoundary l.fn.text l.start;
  lacks : (k : ℕ) → l.start ≤ k → k < l.at → (slice_index l.fn.text k == l.fn.byte) ≡ false;
  found : l.at < length l.fn.text → (slice_index l.fn.text l.at == l.fn.byte) ≡ true;
  done : string_bytes l.out ++ flat_map (substituted l.fn.byte l.fn.to) (drop l.start l.fn.text)
      ≡ string_bytes l.fn.out ++ flat_map (substituted l.fn.byte l.fn.to) l.fn.text;
}

abbrev pub decreases-loop-at : goal.decreases-loop-at
decreases-loop-at l = length l.bytes - l.at
