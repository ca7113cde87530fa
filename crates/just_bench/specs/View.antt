-- A run of a case's module, its result and a stage before any run, as plain data.
use Rattle.std.specs.Prelude.{List, max, map, string_bytes}
use Rattle.std.specs.Option.{option_map}
use Rattle.just_syntax.specs.View.{assignment_view, function_view, name_view, pairs_view, text_numbered}
use Rattle.just_value.specs.View.{frames_view}
use Rattle.just_case_reader.specs.View.{number_set_view}
use Rattle.just_host.specs.Recorded.{Kept}
use Rattle.just_host.specs.View.{config_view, inner_host, records_view, settings_view}
use Rattle.just_host.specs.declared.recorder.Recorder.{Recorder}
use Rattle.just_meaning.specs.Module.{Module}
use Rattle.just_meaning.specs.Stage.{Constants}
use Rattle.just_bench.specs.Blocks.{RunResult}
use Rattle.just_bench.specs.Module.{referenced_in}
use Rattle.just_bench.specs.declared.blocks.Blocks.{Blocks}
use Rattle.just_bench.specs.declared.module_run.ModuleRun.{ModuleRun}
use Rattle.just_bench.specs.declared.settled.Stage.{Stage}

abbrev pub module_run_view : ModuleRun → Module
module_run_view run = record {
  program = record {
    fixed = record {
      config = config_view run.config;
      dotenv = pairs_view run.dotenv;
      justfile = string_bytes run.search.justfile;
      search_directory = string_bytes run.search.working_directory;
      settings = settings_view run.module.settings;
      unexports = map string_bytes run.module.unexports.items;
      source = string_bytes run.module.source;
      module_path = string_bytes run.module.module_path;
      module_directory = string_bytes run.module.working_directory;
      is_submodule = run.module.submodule;
    };
    functions = map function_view run.module.functions;
  };
  assignments = record {
    all = map assignment_view run.module.assignments;
    order = map name_view run.module.evaluation_order.items;
    referenced = referenced_in (option_map number_set_view run.references);
  };
  limit = max run.recursion_limit 1;
  overrides = text_numbered run.overrides;
}

-- a recorder's inner host, and its records so far
abbrev pub seen : {H : Type 0} → Recorder H → H × List Kept
seen recorder = (inner_host recorder, records_view recorder)

-- the result of a run
abbrev pub found_view : Blocks → RunResult
found_view blocks = record { frames = frames_view blocks.scope; asked = text_numbered blocks.questions }

abbrev pub stage_view : Stage → Constants
stage_view stage = record {
  assignments = record {
    all = map assignment_view stage.assignments;
    order = map name_view stage.evaluation_order.items;
    referenced = number_set_view stage.references;
  };
  overrides = text_numbered stage.overrides;
}
