-- What a run is evaluated from, as plain data.
use Rattle.std.specs.Prelude.{ℕ, Bool, true, nat_eq, List, Option, Some, None, map, string_bytes}
use Rattle.std.specs.List.{list_any}
use Rattle.std.specs.HashSet.{HashSet}
use Rattle.just_syntax.specs.View.{pairs_view, text_numbered, assignment_view, name_view}
use Rattle.just_host.specs.View.{config_view, settings_view}
use Rattle.just_meaning.specs.Module.{Module}
use Rattle.just_meaning.specs.Stage.{Constants}
use Rattle.just_meaning.specs.View.{functions_view}
use Rattle.just_syntax.specs.Plain.{Assignment, Text}
use Rattle.just_syntax.specs.Variables.{number_named}
use Rattle.just_value.specs.Frames.{Frames, value_in}
use Rattle.just_value.specs.Value.{Value}
use Rattle.just_run.specs.declared.run.Run.{Run}

-- without a set each number is referenced
abbrev pub is_referenced_by : {S : Type 0} → Option (HashSet ℕ S) → ℕ → Bool
is_referenced_by None n = true
is_referenced_by (Some set) n = list_any (nat_eq n) set.keys

-- a run in which these numbers are referenced
abbrev pub run_of_referenced : Run → (ℕ → Bool) → Module
run_of_referenced r referenced = record {
  program = record {
    fixed = record {
      config = config_view r.config;
      dotenv = pairs_view r.dotenv;
      justfile = string_bytes r.search.justfile;
      search_directory = string_bytes r.search.working_directory;
      settings = settings_view r.module.now.settings;
      unexports = map string_bytes r.module.now.unexports.items;
      source = string_bytes r.module.now.source;
      module_path = string_bytes r.module.now.module_path;
      module_directory = string_bytes r.module.now.working_directory;
      is_submodule = r.module.now.submodule;
    };
    functions = functions_view r.module.now;
  };
  assignments = record {
    all = map assignment_view r.module.now.assignments;
    order = map name_view r.module.now.evaluation_order.items;
    referenced = referenced;
  };
  limit = r.recursion_limit;
  overrides = text_numbered r.overrides;
}

abbrev pub run_view : Run → Module
run_view r = run_of_referenced r (is_referenced_by r.references)

-- what is evaluated before a run in which these numbers are referenced
abbrev pub constants_of_referenced : Run → (ℕ → Bool) → Constants
constants_of_referenced r referenced = let m = run_of_referenced r referenced in
    record { assignments = m.assignments; overrides = m.overrides }

-- what is evaluated before a run
abbrev pub constants_view : Run → Constants
constants_view r = constants_of_referenced r (is_referenced_by r.references)

-- the value of a number, if there is one
abbrev pub value_of_number : Option ℕ → Frames → Option Value
value_of_number (Some n) frames = value_in frames n
value_of_number None frames = None

-- the value of the variable with a name, if it has one in these frames
abbrev pub value_of_name : List Assignment → Frames → Text → Option Value
value_of_name assignments frames name = value_of_number (number_named assignments name) frames
