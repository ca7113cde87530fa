-- Constant evaluation: the rules under which no command may be run and no function called.
use Rattle.std.specs.Prelude.{ℕ, Bool, false, [], Option, Some, None, if◌then◌else◌}
use Rattle.just_value.specs.ConstRefusal.{Backtick, FunctionCall, Variable}
use Rattle.just_value.specs.Refusal.{Refusal, Const}
use Rattle.just_value.specs.Outcome.{Outcome, Refused, Stopped}
use Rattle.just_host.specs.Interaction.{Rules, Read, Entered, Command, Begins, Binds, Tree, done, ask, note, check}
use Rattle.just_host.specs.Settings.{unset}
use Rattle.just_meaning.specs.Meaning.{Program}

-- a call, a command and the reading of an open variable are refused
abbrev pub constantly : (ℕ → Bool) → Rules
constantly is_open (Read t n) = if is_open n then Some (Const (Variable t)) else None
constantly is_open (Entered t) = Some (Const (FunctionCall t))
constantly is_open (Command t) = Some (Const (Backtick t))
constantly is_open (Begins n) = None
constantly is_open (Binds n v) = None

abbrev pub unless_refused : {A : Type 0} → Option Refusal → Outcome A → Outcome A
unless_refused (Some r) o = Refused r
unless_refused None o = o

-- The outcome of a tree by these rules. They refuse the note before each question, so that no question is reached. No
-- value is checked in an expression.
abbrev pub constant : {A : Type 0} → (ℕ → Bool) → Tree A → Outcome A
constant is_open (done o) = o
constant is_open (ask q next) = Stopped
constant is_open (check p v next) = Stopped
constant is_open (note x rest) = unless_refused (constantly is_open x) (constant is_open rest)

-- The program that constants are evaluated in. By these rules nothing reads it.
abbrev pub nowhere : Program
nowhere = record {
  fixed = record {
    config = record {
      dry_run = false;
      invocation_directory = [];
      jobs = None;
      quiet = false;
      shell = None;
      shell_args = None;
      shell_command = false;
    };
    dotenv = [];
    justfile = [];
    search_directory = [];
    settings = unset;
    unexports = [];
    source = [];
    module_path = [];
    module_directory = [];
    is_submodule = false;
  };
  functions = [];
}
