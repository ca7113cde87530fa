-- How the program was called, and the settings of a module.
use Rattle.std.specs.Prelude.{ℕ, Bool, false, List, [], ◌∷◌, Option, Some, None, unwrap_or, codes}
use Rattle.just_syntax.specs.Plain.{Text, Interpreter}
use Rattle.just_syntax.specs.declared.indentation.Indentation.{Indentation}
use Rattle.just_value.specs.Value.{Value}

pub record Config : Type 0 where
  pub dry_run : Bool
  pub invocation_directory : Text
  pub jobs : Option ℕ
  pub quiet : Bool
  pub shell : Option Text
  pub shell_args : Option (List Text)
  pub shell_command : Bool

-- the program called in a directory, without options
abbrev pub called_in : Text → Config
called_in directory = record {
  dry_run = false;
  invocation_directory = directory;
  jobs = None;
  quiet = false;
  shell = None;
  shell_args = None;
  shell_command = false;
}

pub record Settings : Type 0 where
  pub allow_duplicate_recipes : Bool
  pub allow_duplicate_variables : Bool
  pub default_list : Bool
  pub default_script : Bool
  pub dotenv_command : Value
  pub dotenv_filename : Value
  pub dotenv_load : Bool
  pub dotenv_override : Bool
  pub dotenv_path : Value
  pub dotenv_required : Bool
  pub export : Bool
  pub fallback : Bool
  pub guards : Bool
  pub ignore_comments : Bool
  pub indentation : Option Indentation
  pub lazy : Bool
  pub lists : Bool
  pub no_cd : Bool
  pub no_exit_message : Bool
  pub positional_arguments : Bool
  pub quiet : Bool
  pub script_interpreter : Option (Interpreter Text)
  pub shell : Option (Interpreter Text)
  pub tempdir : Option Text
  pub unstable : Bool
  pub windows_powershell : Bool
  pub windows_shell : Option (Interpreter Text)
  pub working_directory : Option Text

-- the settings of a module that sets nothing
abbrev pub unset : Settings
unset = record {
  allow_duplicate_recipes = false;
  allow_duplicate_variables = false;
  default_list = false;
  default_script = false;
  dotenv_command = [];
  dotenv_filename = [];
  dotenv_load = false;
  dotenv_override = false;
  dotenv_path = [];
  dotenv_required = false;
  export = false;
  fallback = false;
  guards = false;
  ignore_comments = false;
  indentation = None;
  lazy = false;
  lists = false;
  no_cd = false;
  no_exit_message = false;
  positional_arguments = false;
  quiet = false;
  script_interpreter = None;
  shell = None;
  tempdir = None;
  unstable = false;
  windows_powershell = false;
  windows_shell = None;
  working_directory = None;
}

abbrev pub default_shell : Text
default_shell = codes "sh"

abbrev pub default_shell_arguments : List Text
default_shell_arguments = codes "-cu" ∷ []

-- The command and the arguments that the program was called with, a missing one replaced by the default. If it was
-- called with neither, the shell that the module sets, or else the default.
abbrev pub chosen : Option Text → Option (List Text) → Option (Interpreter Text) → Interpreter Text
chosen None None (Some shell) = shell
chosen command arguments _ =
    record { command = unwrap_or command default_shell; arguments = unwrap_or arguments default_shell_arguments }

abbrev pub shell_of : Settings → Config → Interpreter Text
shell_of s c = chosen c.shell c.shell_args s.shell
