-- Variables by their names.
use Rattle.std.specs.Prelude.{ℕ, Bool, false, List, [], ◌∷◌, ◌++◌, Option, Some, None, nat_eq, unwrap_or, codes}
use Rattle.std.specs.Prelude.{if◌then◌else◌}
use Rattle.std.specs.Option.{is_some, option_map, option_or}
use Rattle.just_syntax.specs.Keyed.{value_at}
use Rattle.just_syntax.specs.OutOfMemory.{no_memory_text}
use Rattle.just_syntax.specs.Plain.{Text, Assignment}

-- the number of the variable with this name
abbrev pub number_named : List Assignment → Text → Option ℕ
number_named assignments name = option_map (λ a. a.number) (value_at (λ a. a.name.lexeme) name assignments)

-- the first of some names that no variable has
abbrev pub first_unknown : List Assignment → List Text → Option Text
first_unknown assignments [] = None
first_unknown assignments (name ∷ names) =
    if is_some (number_named assignments name) then first_unknown assignments names else Some name

-- whether the variable with this name has the number
abbrev pub has_number : List Assignment → ℕ → Text → Bool
has_number assignments n name = unwrap_or (option_map (λ m. nat_eq m n) (number_named assignments name)) false

-- the text that pairs of a name and a text give a number: of the pairs whose name has this number, the last counts
abbrev pub given : List Assignment → List (Text × Text) → ℕ → Option Text
given assignments [] n = None
given assignments (p ∷ ps) n =
    option_or (given assignments ps n) (if has_number assignments n p.0 then Some p.1 else None)

-- the message for a name that no variable has, or for `OutOfMemory`
abbrev pub variable_error_text : Option Text → Text
variable_error_text (Some name) = codes "variable `" ++ (name ++ codes "` is not assigned")
variable_error_text None = no_memory_text
