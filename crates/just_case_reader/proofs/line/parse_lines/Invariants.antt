use Rattle.std.proofs.Common.{◌≡◌, ◌++◌, length, map}
use Rattle.just_case_reader.specs.Prelude.{case_line_of, case_line_view, lines_of}
use Rattle.just_case_reader.proofs.line.parse_lines.Given as goal

-- the lines so far, and the remaining ones
abbrev pub invariant-loop-rest : goal.invariant-loop-rest
invariant-loop-rest l = map case_line_view l.lines.items ++ map case_line_of (lines_of l.rest) ≡ map case_line_of (lines_of l.case)

abbrev pub decreases-loop-rest : goal.decreases-loop-rest
decreases-loop-rest l = length l.rest
