-- Parameters as pairs of a name and a number.
use Rattle.std.proofs.Common.{◌≡◌, ℕ, List, [], ◌∷◌, map, refl, ap}
use Rattle.just_value.specs.Prelude.{Token}
use Rattle.just_syntax.specs.View.{name_view, recipe_parameter_view}
use Rattle.just_syntax.specs.declared.parameter.Parameter.{Parameter}
use Rattle.just_value.specs.Numbering.{numbered}

-- a parameter's name and number
abbrev pub pair_of : Parameter → Token × ℕ
pair_of p = (name_view p.name, p.number)

pub pairs_of : (parameters : List Parameter) → map pair_of parameters ≡ numbered (map recipe_parameter_view parameters)
pairs_of [] = refl
pairs_of (p ∷ ps) = ap (λ (l : List (Token × ℕ)). pair_of p ∷ l) (pairs_of ps)
