-- The first binding of a scope.
use Rattle.std.specs.Prelude.{List, [], ◌∷◌, Option, Some, None}
use Rattle.std.specs.Map.{values_of}
use Rattle.just_value.specs.Frames.{Bound, Frames, own_frame}
use Rattle.just_value.specs.Outcome.{Outcome, Gave, and_then}

abbrev pub first_bound : List Bound → Option Bound
first_bound [] = None
first_bound (b ∷ bs) = Some b

abbrev pub without_attributes : Bound → Bound
without_attributes b = record b { attributes = [] }

-- the first binding of a run's scope, if the run yielded one
abbrev pub first_given : Outcome Frames → Outcome (Option Bound)
first_given given = and_then given (λ own. Gave (first_bound (values_of (own_frame own))))
