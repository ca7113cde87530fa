use Rattle.std.specs.Char.{is_whitespace}
use Rattle.std.proofs.Common.{◌-◌, drop, false, ◌++◌, length, slice_index, ◌<◌, ◌≡◌, ◌≤◌}
use Rattle.just_text.proofs.Runs.{filled}
use Rattle.just_text.proofs.split.ascii_words.Given as goal

-- the words so far, and then those of the rest, are all words
abbrev pub invariant-loop-start : goal.invariant-loop-start
invariant-loop-start l = record {
  high : l.start ≤ length l.fn.text;
  first : l.start < length l.fn.text → is_whitespace (slice_index l.fn.text l.start) ≡ false;
  done : l.words.items ++ filled (drop l.start l.fn.text) ≡ filled l.fn.text;
}

abbrev pub decreases-loop-start : goal.decreases-loop-start
decreases-loop-start l = length l.bytes - l.start
