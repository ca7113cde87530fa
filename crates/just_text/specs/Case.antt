-- ASCII letters in another case.
use Rattle.std.specs.Prelude.{[], ◌∷◌, if◌then◌else◌, Option, Some, None}
use Rattle.std.specs.Char.{is_ascii, to_ascii_uppercase}
use Rattle.std.specs.List.{list_all}
use Rattle.std.specs.Str.{str_to_ascii_lowercase, str_to_ascii_uppercase}
use Rattle.just_syntax.specs.Plain.{Text}

-- a text changed, if it is ASCII
abbrev pub if_ascii : (Text → Text) → Text → Option Text
if_ascii change text = if list_all is_ascii text then Some (change text) else None

-- the first character in upper case, all others in lower case
abbrev pub capitalized : Text → Text
capitalized [] = []
capitalized (c ∷ cs) = to_ascii_uppercase c ∷ str_to_ascii_lowercase cs

abbrev pub capitalize : Text → Option Text
capitalize text = if_ascii capitalized text

abbrev pub lowercase : Text → Option Text
lowercase text = if_ascii str_to_ascii_lowercase text

abbrev pub uppercase : Text → Option Text
uppercase text = if_ascii str_to_ascii_uppercase text
