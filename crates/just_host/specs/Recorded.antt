-- Records of questions.
use Rattle.std.specs.Prelude.{◌≡◌, ◌⊎◌, List, [], ◌∷◌, ◌++◌, Option}
use Rattle.just_syntax.specs.Plain.{Text}
use Rattle.just_value.specs.Refusal.{NoMemory}
use Rattle.just_host.specs.declared.number_question.NumberQuestion.{NumberQuestion}
use Rattle.just_host.specs.Question.{Blind, CommandOf, TextOf, ExistsAt, NumberOf, TextQuestion, Question, Answer}
use Rattle.just_host.specs.Question.{Failed}
use Rattle.just_host.specs.Question as asked
use Rattle.just_host.specs.declared.recorded.TextKind.{TextKind}
use Rattle.just_host.specs.declared.recorded.TextKind.TheVariants as kinds
use Rattle.just_host.specs.Interaction.{Step}

-- A command, its arguments if it takes any, and its environment; a question for a text, its subject, and the directory
-- of a search; whether something exists at a path; a number.
pub data Kept : Type 0 where
  KeptCommand : Text → Option (List Text) → List (Text × Text) → Kept
  KeptText : TextKind → Text → Text → Kept
  KeptExistence : Text → Kept
  KeptNumber : NumberQuestion → Kept

-- the kind of a question for a text, without its data
abbrev pub kind_of : TextQuestion → TextKind
kind_of (asked.Variable key) = kinds.Variable
kind_of (asked.Directory kind) = kinds.Directory kind
kind_of (asked.Canonicalize path) = kinds.Canonicalize
kind_of (asked.Read path) = kinds.Read
kind_of (asked.Which name directory) = kinds.Which
kind_of asked.Executable = kinds.Executable
kind_of asked.Arch = kinds.Arch
kind_of asked.Os = kinds.Os
kind_of asked.OsFamily = kinds.OsFamily

-- the variable, path or name that a question for a text is about; empty if there is none
abbrev pub text_of : TextQuestion → Text
text_of (asked.Variable key) = key
text_of (asked.Canonicalize path) = path
text_of (asked.Read path) = path
text_of (asked.Which name directory) = name
text_of _ = []

-- the directory that a search for an executable begins in; empty for any other question
abbrev pub directory_of : TextQuestion → Text
directory_of (asked.Which name directory) = directory
directory_of _ = []

-- the record of a question
abbrev pub recorded : Blind → Kept
recorded (CommandOf c) = KeptCommand c.command c.arguments c.environment
recorded (TextOf q) = KeptText (kind_of q) (text_of q) (directory_of q)
recorded (ExistsAt path) = KeptExistence path
recorded (NumberOf q) = KeptNumber q

-- The question is recorded after the others, and the inner host's answer to it is the answer. If memory runs out, it
-- may be neither recorded nor asked.
abbrev pub RecordsAndAsks : {S : Type 0} → Step S → S → List Kept → Question → Answer → S → List Kept → Type 0
RecordsAndAsks step old kept question answer new kept' =
    (step old question answer new × (kept' ≡ kept ++ recorded question.blind ∷ []))
    ⊎ ((answer ≡ Failed NoMemory) × (new ≡ old) × (kept' ≡ kept))
