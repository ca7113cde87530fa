-- What evaluation may ask, note and check: the signature of its interaction trees.
use Rattle.std.specs.Prelude.{◌≡◌, ℕ, ◌⊎◌}
use Rattle.just_interaction.specs.Signature.{Signature}
use Rattle.just_interaction.specs.Trace as trace
use Rattle.just_interaction.specs.Tree as tree
use Rattle.just_syntax.specs.Plain.{Text, Token, Parameter}
use Rattle.just_value.specs.Value.{Value}
use Rattle.just_value.specs.Refusal.{Refusal, NoMemory}
use Rattle.just_host.specs.Question.{Question, Answer, Failed}
pub use Rattle.just_interaction.specs.Trace.{Asked, Asks, Behaves, Chain, Checked, Checks, Ends, Noted, Notes, Path}
pub use Rattle.just_interaction.specs.Trace.{Shuts, Stops}
pub use Rattle.just_interaction.specs.Tree.{ask, bind, check, done, gives, note, refuses}

-- What evaluation reaches, each with its token: a variable is read, a call is entered, or a command occurs. A command
-- is noted in a dry run too. A run marks where the evaluation of an assignment begins and which value it binds, each by
-- the assignment's number.
pub data Note : Type 0 where
  Read : Token → ℕ → Note
  Entered : Token → Note
  Command : Token → Note
  Begins : ℕ → Note
  Binds : ℕ → Value → Note

-- the verdict of a value check: the value passes; it does not, with a message; or memory ran out
pub data Verdict : Type 0 where
  Passed : Verdict
  Rejected : Text → Verdict
  Undecided : Verdict

-- Questions and answers of a host, notes, checks of parameters' values with their verdicts, and refusals.
abbrev pub signature : Signature
signature = record {
  Question = Question;
  Answer = Answer;
  Note = Note;
  Subject = Parameter;
  Value = Value;
  Verdict = Verdict;
  Refusal = Refusal;
}

abbrev pub Tree : Type 0 → Type 0
Tree A = tree.Tree signature A

abbrev pub Event : Type 0
Event = trace.Event signature

-- which of the notes are refused
abbrev pub Rules : Type 0
Rules = trace.Rules signature

-- none is
abbrev pub freely : Rules
freely = trace.freely signature

-- a transition relation: a host's state, a question, its answer, and the next state
abbrev pub Step : Type 0 → Type 1
Step S = trace.Step signature S

-- which verdicts a check of a parameter's value may give
abbrev pub Verdicts : Type 1
Verdicts = trace.Verdicts signature

-- none: no value is checked
abbrev pub unchecked : Verdicts
unchecked = trace.unchecked signature

-- Only answered questions take the host's state from `old` to `new`.
abbrev pub GoesByAnswers : {S : Type 0} → Step S → S → S → Type 0
GoesByAnswers step old new = trace.GoesByAnswers signature step old new

-- The question and its answer take the host's state from `old` to `new`. Or memory runs out before it is asked, and the
-- answer says so.
abbrev pub AsksOnce : {S : Type 0} → Step S → S → Question → Answer → S → Type 0
AsksOnce step old q a new = step old q a new ⊎ ((a ≡ Failed NoMemory) × (old ≡ new))
