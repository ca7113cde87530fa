use Rattle.std.proofs.Common.{◌≡◌, [], drop, map}
use Rattle.just_value.specs.Prelude.{constant_view, frame_view, with_constants}
use Rattle.just_value.proofs.scope.Scope.root.Given as goal

-- adding the remaining constants to the frame so far gives the frame of all constants
abbrev pub invariant-loop-i : goal.invariant-loop-i
invariant-loop-i l =
    with_constants (frame_view l.frame) l.i (map constant_view (drop l.i l.constants)) ≡ with_constants [] 0 (map constant_view l.constants)
