-- Parameters bound in the first frame, one after another.
use Rattle.std.specs.Prelude.{ℕ, List, [], ◌∷◌}
use Rattle.just_syntax.specs.Plain.{Token}
use Rattle.just_value.specs.Value.{Value}
use Rattle.just_value.specs.Frames.{Frames, bound_innermost, plainly_bound}

abbrev pub parameters_innermost : Frames → List (Token × ℕ) → List Value → Frames
parameters_innermost frames [] vs = frames
parameters_innermost frames (p ∷ ps) [] = frames
parameters_innermost frames (p ∷ ps) (v ∷ vs) =
    parameters_innermost (bound_innermost frames (plainly_bound p.0 p.1 v)) ps vs
