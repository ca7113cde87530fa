-- Parameters bound in the first frame.
use Rattle.std.proofs.Common.{◌≡◌, ℕ, List, [], ◌∷◌, refl}
use Rattle.just_expression.specs.Prelude.{Frames, Token, Value, parameters_innermost, plainly_bound, with_parameters}
use Rattle.just_value.specs.Frames.{Frame, with_bound}

pub parameters_in_own : (frame : Frame) (outer : Frames) (ps : List (Token × ℕ)) (vs : List Value) → parameters_innermost (frame ∷ outer) ps vs
    ≡ with_parameters frame ps vs ∷ outer
parameters_in_own frame outer [] vs = refl
parameters_in_own frame outer (p ∷ ps) [] = refl
parameters_in_own frame outer (p ∷ ps) (v ∷ vs) = parameters_in_own (with_bound frame (plainly_bound p.0 p.1 v)) outer ps vs
