use Rattle.std.proofs.Common.{◌≡◌, ◌++◌, map, string_bytes}
use Rattle.std.specs.Map.{values_of}
use Rattle.just_bench.specs.Prelude.{binding_lines, bindings_left, bound_view, frames_view, own_frame}
use Rattle.just_bench.proofs.print.print_bindings.Given as goal

-- the output so far, and the lines of the remaining bindings
abbrev pub invariant-loop-binding : goal.invariant-loop-binding
invariant-loop-binding l = string_bytes l.text ++ binding_lines (map bound_view (bindings_left l.binding-iterator))
    ≡ string_bytes l.fn.text ++ binding_lines (values_of (own_frame (frames_view l.scope)))
