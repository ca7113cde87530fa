use Rattle.std.proofs.Common.{◌≡◌, ◌≤◌, ◌+◌, length, map}
use Rattle.just_case_reader.specs.Prelude.{case_line_of, described_from, lines_of, reading_view}
use Rattle.just_case_reader.proofs.case.take_text.Given as goal

-- the result of the remaining lines after those so far
abbrev pub invariant-loop-rest : goal.invariant-loop-rest
invariant-loop-rest l = record {
  so_far : described_from (l.count + 1) (reading_view l.builder) (map case_line_of (lines_of l.rest))
      ≡ described_from 1 (reading_view l.fn.builder) (map case_line_of (lines_of l.text));
  bound : l.count + length l.rest ≤ length l.text;
}

abbrev pub decreases-loop-rest : goal.decreases-loop-rest
decreases-loop-rest l = length l.rest
