use Rattle.std.proofs.Common.{◌≡◌, List, ℕ, map}
use Rattle.std.specs.Option.{option_or}
use Rattle.just_value.specs.View.{bindings_left}
use Rattle.just_resolve.specs.Prelude.{bound_view, first_named, frame_names, frame_view, number_in}
use Rattle.just_resolve.proofs.names.add_frame.Given as goal

-- the names so far, and then the remaining bindings
abbrev pub invariant-loop-binding : goal.invariant-loop-binding
invariant-loop-binding l = (t : List ℕ)
    → option_or (number_in l.all t) (first_named (map (λ b. (b.name, b.number)) (map bound_view (bindings_left l.binding-iterator))) t)
    ≡ option_or (number_in l.fn.all t) (first_named (frame_names (frame_view l.frame)) t)
