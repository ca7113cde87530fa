use Rattle.std.proofs.Common.{◌≡◌, [], ◌++◌, Option, drop, map, string_bytes}
use Rattle.just_bench.specs.Prelude.{Added, RunResult, Text, Walks, frames_view, in_order, module_run_view, name_view, seen, taken_view, text_numbered}
use Rattle.just_bench.proofs.blocks.print_turns.Given as goal

-- the output so far, followed by that of a walk from here, is that of the whole walk
abbrev pub invariant-loop-name : goal.invariant-loop-name
invariant-loop-name g l =
    let m = in_order (module_run_view l.fn.run) (map name_view l.order) in
    record {
      run : in_order (module_run_view l.run) [] ≡ in_order (module_run_view l.fn.run) [];
      walks : Added (string_bytes l.fn.text) (string_bytes l.text) (λ printed. (more : Text) (found : Option RunResult)
          → Walks g.H.Host.step m (seen l.host) (frames_view l.blocks.scope) (map name_view (drop l.name-index l.order)) (drop l.at (map taken_view l.taken))
          (text_numbered l.blocks.questions) more found
          → Walks g.H.Host.step m (seen l.fn.host) (frames_view l.fn.blocks.scope) (map name_view l.order) (map taken_view l.taken)
          (text_numbered l.fn.blocks.questions) (printed ++ more) found);
    }
