use Rattle.std.proofs.Common.{◌≡◌, ◌+◌, drop, map}
use Rattle.just_case_reader.specs.Prelude.{case_line_view, described_from, reading_view}
use Rattle.just_case_reader.proofs.case.take_all.Given as goal

-- the result of the remaining lines after those so far
abbrev pub invariant-loop-index : goal.invariant-loop-index
invariant-loop-index l = described_from (l.index + 1) (reading_view l.builder) (map case_line_view (drop l.index l.lines))
    ≡ described_from 1 (reading_view l.fn.builder) (map case_line_view l.lines)
