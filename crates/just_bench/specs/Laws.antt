-- A case has one answer.
use Rattle.std.specs.Prelude.{◌≡◌, ◌≢◌, ◌⊎◌, ℕ, [], ◌++◌, None}
use Rattle.just_syntax.specs.Plain.{Text}
use Rattle.just_bench.specs.Printed.{const_refusal_line, with_newline, refusal_line}
use Rattle.just_script.specs.Script.{Script}
use Rattle.just_bench.specs.Answer.{AnswersCase}
use Rattle.just_bench.specs.Run.{by_script}

-- whole lines, or none
abbrev pub AreLines : Text → Type 0
AreLines text = (text ≡ []) ⊎ ((front : Text) × (text ≡ with_newline front))

-- the last line does not report `OutOfMemory`, neither in a run nor before any
abbrev pub HadMemory : Text → Type 0
HadMemory text =
    (front : Text) → AreLines front → (text ≢ front ++ refusal_line None) × (text ≢ front ++ const_refusal_line None)

-- Two answers of the program to the same case, neither of which ends with such a line, are the same text with the same
-- status.
abbrev pub OneAnswer : Type 0
OneAnswer = let Starts = λ (script state : Script). state ≡ script in
    (case p q : Text) (s t : ℕ) → AnswersCase by_script Starts case p s → AnswersCase by_script Starts case q t
    → HadMemory p → HadMemory q → (p ≡ q) × (s ≡ t)
