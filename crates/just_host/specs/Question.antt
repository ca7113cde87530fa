-- The questions to a host, and its possible answers.
use Rattle.std.specs.Prelude.{◌≡◌, ℕ, Bool, List, [], Option, ◌⊎◌}
use Rattle.just_syntax.specs.Plain.{Text}
use Rattle.just_value.specs.Frames.{Frames}
use Rattle.just_value.specs.Refusal.{Fault, NoMemory}
use Rattle.just_host.specs.declared.directory_kind.DirectoryKind.{DirectoryKind}
use Rattle.just_host.specs.declared.number_question.NumberQuestion.{NumberQuestion}
use Rattle.just_host.specs.Settings.{Config, Settings}
use Rattle.just_host.specs.Fixed.{Fixed, working_directory}

-- a command, and what it runs with, without the frames that it can read
pub record BlindCommand : Type 0 where
  pub command : Text
  pub arguments : Option (List Text)
  pub environment : List (Text × Text)
  pub config : Config
  pub dotenv : List (Text × Text)
  pub settings : Settings
  pub unexports : List Text
  pub working_directory : Text

-- A question that a text answers. `Which` has a name and a directory.
pub data TextQuestion : Type 0 where
  Variable : Text → TextQuestion
  Directory : DirectoryKind → TextQuestion
  Canonicalize : Text → TextQuestion
  Read : Text → TextQuestion
  Which : Text → Text → TextQuestion
  Executable : TextQuestion
  Arch : TextQuestion
  Os : TextQuestion
  OsFamily : TextQuestion

-- a question, without the frames that it shows
pub data Blind : Type 0 where
  CommandOf : BlindCommand → Blind
  TextOf : TextQuestion → Blind
  ExistsAt : Text → Blind
  NumberOf : NumberQuestion → Blind

-- a question, and the frames that it shows, innermost first
pub record Question : Type 0 where
  pub blind : Blind
  pub shown : Frames

-- An answer: a text; why there is none, including `NoMemory`; that there is nothing; a readable form of something that
-- is not text; whether something exists; a number.
pub data Answer : Type 0 where
  Replied : Text → Answer
  Failed : Fault → Answer
  Absent : Answer
  NotText : Text → Answer
  Found : Bool → Answer
  Numbered : ℕ → Answer

-- the answer is the expected one, or `NoMemory`
abbrev pub UnlessNoMemory : Answer → Answer → Type 0
UnlessNoMemory a wanted = (a ≡ wanted) ⊎ (a ≡ Failed NoMemory)

-- the question for a command in a context, with this environment, these arguments and these frames
abbrev pub command_question : Fixed → List (Text × Text) → Frames → Text → Option (List Text) → Question
command_question f environment shown command arguments = record {
  blind = CommandOf (record {
    command = command;
    arguments = arguments;
    environment = environment;
    config = f.config;
    dotenv = f.dotenv;
    settings = f.settings;
    unexports = f.unexports;
    working_directory = working_directory f;
  });
  shown = shown;
}

-- any other question, which shows no frames
abbrev pub frameless : Blind → Question
frameless q = record { blind = q; shown = [] }
