-- The module of a case, and its context.
use Rattle.std.specs.Prelude.{ℕ, max, Bool, true, false, [], Option, Some, None, codes}
use Rattle.just_case_reader.specs.Case.{Case}
use Rattle.just_host.specs.Fixed.{Fixed}
use Rattle.just_host.specs.Settings.{Config, Settings, called_in, unset}
use Rattle.just_meaning.specs.Module.{Module}

-- how the program is assumed to be called
abbrev pub case_config : Bool → Config
case_config dry_run = record (called_in (codes "/work")) { dry_run = dry_run }

-- a module sets nothing but lists
abbrev pub case_settings : Bool → Settings
case_settings lists = record unset { lists = lists }

-- the file that a case is assumed to be, and its directory
abbrev pub case_fixed : Case → Fixed
case_fixed c = record {
  config = case_config c.dry_run;
  dotenv = c.dotenv;
  justfile = codes "/work/justfile";
  search_directory = codes "/work";
  settings = case_settings c.lists;
  unexports = [];
  source = codes "/work/justfile";
  module_path = [];
  module_directory = codes "/work";
  is_submodule = false;
}

-- without a set, each variable is referenced
abbrev pub referenced_in : Option (ℕ → Bool) → ℕ → Bool
referenced_in None n = true
referenced_in (Some referenced) n = referenced n

abbrev pub case_module : Case → Module
case_module c = record {
  program = record { fixed = case_fixed c; functions = c.functions };
  assignments = record { all = c.assignments; order = c.evaluation_order; referenced = referenced_in c.references };
  limit = max c.recursion_limit 1;
  overrides = c.overrides;
}
