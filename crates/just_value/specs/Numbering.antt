-- The numbers of names.
use Rattle.std.specs.Prelude.{ℕ, List, [], ◌∷◌, map, Option, Some, None, if◌then◌else◌}
use Rattle.std.specs.Option.{option_or}
use Rattle.std.specs.Str.{bytes_eq}
use Rattle.just_syntax.specs.Plain.{Text, Token, Parameter}

-- the number of the last pair with this name
abbrev pub last_of : List (Token × ℕ) → Text → Option ℕ
last_of [] name = None
last_of (p ∷ ps) name = option_or (last_of ps name) (if bytes_eq p.0.lexeme name then Some p.1 else None)

-- the names of parameters, each with its number
abbrev pub numbered : List Parameter → List (Token × ℕ)
numbered parameters = map (λ p. (p.name, p.number)) parameters
