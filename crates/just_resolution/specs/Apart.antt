-- Numbers of assignments and parameters that do not clash.
use Rattle.std.specs.Prelude.{◌⊎◌, ◌++◌, ℕ, List, map}
use Rattle.just_syntax.specs.Plain.{Assignment, Function, Parameter}
use Rattle.just_syntax.specs.Lists.{IsIn}
use Rattle.just_value.specs.Frames.{Frames, value_in}
use Rattle.just_meaning.specs.Resolved.{AreDistinct, HasValue, parameter_numbers}

-- the numbers of assignments and of all parameters are distinct, and neither `frames` nor `base` binds one of a
-- parameter
abbrev pub AreApart : List Function → List Assignment → Frames → Frames → List Parameter → Type 0
AreApart functions assignments base frames parameters =
    AreDistinct (map (λ a. a.number) assignments ++ parameter_numbers functions ++ map (λ p. p.number) parameters)
    × ((n : ℕ) → IsIn (parameter_numbers functions ++ map (λ p. p.number) parameters) n → HasValue (value_in frames) n
    ⊎ HasValue (value_in base) n → ⊥)
