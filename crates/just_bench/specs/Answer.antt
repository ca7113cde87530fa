-- The answer to a case.
use Rattle.std.specs.Prelude.{◌≡◌, ℕ, [], ◌∷◌, ◌++◌, map, codes, decimal}
use Rattle.just_syntax.specs.Plain.{Text}
use Rattle.just_value.specs.Frames.{Frames}
use Rattle.just_host.specs.Interaction.{Step}
use Rattle.just_bench.specs.Printed.{with_newline}
use Rattle.just_case_reader.specs.Case.{Case, Evaluation, Run, Const, Blocks}
use Rattle.just_case_reader.specs.Line.{case_line_of, lines_of}
use Rattle.just_case_reader.specs.Reading.{Described, Describes, BadLine, described}
use Rattle.just_script.specs.Script.{Script}
use Rattle.just_bench.specs.Blocks.{BlocksPrints}
use Rattle.just_bench.specs.Run.{CaseRuns}
use Rattle.just_bench.specs.Settled.{ConstPrints}

-- a case is evaluated in the way that it asks for, in a scope on these frames
abbrev pub Evaluated : {S : Type 0} → Step S → (Script → S → Type 0) → Case → Evaluation → Frames → Text → ℕ → Type 0
Evaluated step Starts c Run outer printed status = CaseRuns step Starts c outer printed status
Evaluated step Starts c Const outer printed status = ConstPrints c outer printed status
Evaluated step Starts c (Blocks second) outer printed status = BlocksPrints step Starts c second outer printed status

-- the case that the lines describe is evaluated in an empty scope; or the index of the first bad line is printed
abbrev pub AnswersLines : {S : Type 0} → Step S → (Script → S → Type 0) → Described → Text → ℕ → Type 0
AnswersLines step Starts (Describes c) printed status = Evaluated step Starts c c.evaluation ([] ∷ []) printed status
AnswersLines step Starts (BadLine n) printed status =
    (printed ≡ with_newline (codes "bad line " ++ decimal n)) × (status ≡ 1)

-- the answer to the bytes of a case: a text and a status
abbrev pub AnswersCase : {S : Type 0} → Step S → (Script → S → Type 0) → Text → Text → ℕ → Type 0
AnswersCase step Starts case printed status =
    AnswersLines step Starts (described (map case_line_of (lines_of case))) printed status
