-- Texts quoted for a shell.
use Rattle.std.specs.Prelude.{ℕ, ◌++◌, ◌==◌, if◌then◌else◌, [], ◌∷◌, codes}
use Rattle.std.specs.List.{flat_map}
use Rattle.just_syntax.specs.Plain.{Text}

-- a byte within single quotes: a quote closes them, is escaped by a backslash, and opens them again
abbrev pub in_quotes : ℕ → Text
in_quotes b = if b == 39 then codes "'\\''" else b ∷ []

-- a text in single quotes
abbrev pub single_quoted : Text → Text
single_quoted text = codes "'" ++ (flat_map in_quotes text ++ codes "'")
