use Rattle.std.proofs.Common.{◌≡◌, ◌++◌, map, string_bytes, take, flat_map}
use Rattle.just_bench.specs.Prelude.{stage_state_of, taken_view, variable_line}
use Rattle.just_bench.proofs.settled.print_settled.Given as goal

-- the lines so far
abbrev pub invariant-loop-name : goal.invariant-loop-name
invariant-loop-name l =
    string_bytes l.text ≡ string_bytes l.fn.text ++ flat_map (variable_line (stage_state_of l.evaluator)) (map taken_view (take l.name-index l.taken))
