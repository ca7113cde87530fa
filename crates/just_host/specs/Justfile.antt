-- Modules, and the location of the root module.
use Rattle.std.specs.Prelude.{Bool, false, List, [], ◌∷◌, ◌++◌, if◌then◌else◌}
use Rattle.std.specs.Option.{is_some}
use Rattle.just_syntax.specs.Keyed.{value_at, with_value}
use Rattle.just_syntax.specs.Plain.{Text, Token, Assignment, Function}
use Rattle.just_host.specs.Settings.{Settings, unset}

-- the root justfile that was found, and its working directory
pub record Search : Type 0 where
  pub justfile : Text
  pub working_directory : Text

-- assignments and the order of their names, functions, settings, and where the module was read from
pub record Justfile : Type 0 where
  pub assignments : List Assignment
  pub evaluation_order : List Token
  pub functions : List Function
  pub module_path : Text
  pub settings : Settings
  pub source : Text
  pub submodule : Bool
  pub unexports : List Text
  pub working_directory : Text

-- an empty root module, read from a file and working in a directory
abbrev pub empty_root : Text → Text → Justfile
empty_root source directory = record {
  assignments = [];
  evaluation_order = [];
  functions = [];
  module_path = [];
  settings = unset;
  source = source;
  submodule = false;
  unexports = [];
  working_directory = directory;
}

-- whether the module has an assignment with this name
abbrev pub assigns : Justfile → Text → Bool
assigns j name = is_some (value_at (λ a. a.name.lexeme) name j.assignments)

-- The module with an assignment, which replaces one with its name and takes its place in the order. A new one is
-- evaluated last.
abbrev pub with_assignment : Justfile → Assignment → Justfile
with_assignment j a = record j {
  assignments = with_value (λ a. a.name.lexeme) j.assignments a;
  evaluation_order = if assigns j a.name.lexeme then j.evaluation_order else j.evaluation_order ++ a.name ∷ [];
}

-- the module with a function, which replaces one with its name
abbrev pub with_function : Justfile → Function → Justfile
with_function j f = record j { functions = with_value (λ f. f.name.lexeme) j.functions f }
