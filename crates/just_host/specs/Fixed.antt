-- The fixed context of a module's evaluation.
use Rattle.std.specs.Prelude.{Bool, List, Option, Some, None, if◌then◌else◌}
use Rattle.just_syntax.specs.Plain.{Text}
use Rattle.just_text.specs.Path.{joined_paths}
use Rattle.just_host.specs.Settings.{Config, Settings}

-- The search's justfile and directory; the module's settings, unexports, source, path and directory, and whether it is
-- a submodule.
pub record Fixed : Type 0 where
  pub config : Config
  pub dotenv : List (Text × Text)
  pub justfile : Text
  pub search_directory : Text
  pub settings : Settings
  pub unexports : List Text
  pub source : Text
  pub module_path : Text
  pub module_directory : Text
  pub is_submodule : Bool

abbrev pub or_joined : Text → Option Text → Text
or_joined base (Some directory) = joined_paths base directory
or_joined base None = base

-- the module's directory for a submodule, otherwise the search's
abbrev pub base_directory : Fixed → Text
base_directory f = if f.is_submodule then f.module_directory else f.search_directory

-- the directory that commands run in: the base directory, joined with the one that is set
abbrev pub working_directory : Fixed → Text
working_directory f = or_joined (base_directory f) f.settings.working_directory
