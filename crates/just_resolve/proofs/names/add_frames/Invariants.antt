use Rattle.std.proofs.Common.{◌≡◌, List, ℕ, drop, map}
use Rattle.std.specs.Option.{option_or}
use Rattle.just_resolve.specs.Prelude.{bound_names, first_named, frame_view, number_in}
use Rattle.just_resolve.proofs.names.add_frames.Given as goal

-- the names so far, and then those of the remaining frames
abbrev pub invariant-loop-frame : goal.invariant-loop-frame
invariant-loop-frame l = (t : List ℕ)
    → option_or (number_in l.all t) (first_named (bound_names (map (λ f. frame_view f.now) (drop l.frame-index l.frames))) t)
    ≡ option_or (number_in l.fn.all t) (first_named (bound_names (map (λ f. frame_view f.now) l.frames)) t)
