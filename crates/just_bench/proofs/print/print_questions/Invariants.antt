use Rattle.std.proofs.Common.{◌≡◌, ◌++◌, map, take, string_bytes}
use Rattle.just_bench.specs.Prelude.{question_lines, recorded_view}
use Rattle.just_bench.proofs.print.print_questions.Given as goal

-- the lines of the questions so far
abbrev pub invariant-loop-question : goal.invariant-loop-question
invariant-loop-question l = string_bytes l.text ≡ string_bytes l.fn.text ++ question_lines (map recorded_view (take l.question-index l.questions))
