-- Texts escaped for URIs.
use Rattle.std.specs.Prelude.{◌≡◌, ℕ, ◌<◌, Bool, not, ◌||◌, ◌==◌, if◌then◌else◌, [], ◌∷◌}
use Rattle.std.specs.Char.{is_ascii_alphanumeric}
use Rattle.std.specs.List.{flat_map}
use Rattle.percent_encoding.specs.AsciiSet.{contains}
use Rattle.percent_encoding.specs.Percent.{percent_encode_byte}
use Rattle.percent_encoding.specs.declared.ascii_set.AsciiSet.{AsciiSet}
use Rattle.just_syntax.specs.Plain.{Text}

-- `-` `_` `.` `!` `~` `*` `'` `(` `)`
abbrev pub is_mark : ℕ → Bool
is_mark b = b == 45 || b == 95 || b == 46 || b == 33 || b == 126 || b == 42 || b == 39 || b == 40 || b == 41

-- an ASCII letter or digit, or one of these marks
abbrev pub is_unreserved : ℕ → Bool
is_unreserved b = is_ascii_alphanumeric b || is_mark b

-- each byte that is not unreserved as `%` and two upper-case hexadecimal digits
abbrev pub encoded : Text → Text
encoded text = flat_map (λ b. if is_unreserved b then b ∷ [] else percent_encode_byte b) text

-- the set has exactly the ASCII bytes that are escaped
abbrev pub EscapesReserved : AsciiSet → Type 0
EscapesReserved set = (b : ℕ) → b < 128 → contains set b ≡ not (is_unreserved b)
