-- How texts and values are shown.
use Rattle.std.specs.Prelude.{ℕ, ◌==◌, ◌<◌, ◌≡◌, ◌++◌, if◌then◌else◌, [], ◌∷◌, chars, codes, encode_utf8}
use Rattle.std.specs.List.{flat_map, join_by}
use Rattle.just_syntax.specs.Plain.{Text}
use Rattle.just_value.specs.Value.{Value}

-- a character as a quoted text shows it: tab, return, newline, quote and backslash are escaped with a backslash
abbrev pub escaped : ℕ → Text
escaped c =
    if c == 9 then codes "\\t"
    else (if c == 13 then codes "\\r"
    else (if c == 10 then codes "\\n"
    else (if c == 34 then codes "\\\""
    else (if c == 92 then codes "\\\\"
    else encode_utf8 c))))

-- a byte is shown as it is, unless it belongs to a longer character
abbrev pub IsPlain : ℕ → Type 0
IsPlain byte = byte < 128 → escaped byte ≡ byte ∷ []

-- a text after an opening, up to the closing quote
abbrev pub quoted_after : Text → Text → Text
quoted_after opening text = opening ++ (flat_map escaped (chars text) ++ codes "\"")

-- a text in quotes
abbrev pub quoted : Text → Text
quoted text = quoted_after (codes "\"") text

-- one element as a quoted text, otherwise the quoted elements in brackets
abbrev pub shown : Value → Text
shown (text ∷ []) = quoted text
shown texts = codes "[" ++ (join_by quoted (codes ", ") texts ++ codes "]")
