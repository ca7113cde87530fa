-- The literals that tokens stand for.
use Rattle.std.specs.Prelude.{ℕ, zero, suc, ◌+◌, ◌*◌, ◌-◌, Bool, true, false, ◌==◌, ◌&&◌, ◌||◌, nat_le}
use Rattle.std.specs.Prelude.{nat_lt, nat_eq}
use Rattle.std.specs.Prelude.{[], ◌∷◌, ◌++◌, length, drop, take, codes, Option, Some, None, option_map}
use Rattle.std.specs.Prelude.{option_and_then, if◌then◌else◌}
use Rattle.std.specs.Char.{encode_utf8}
use Rattle.std.specs.List.{ends_with, starts_with}
use Rattle.just_syntax.specs.Plain.{Text, Literal}
use Rattle.just_syntax.specs.Unindented.{unindented}

-- ---- quotation marks

-- the bytes of a mark, and whether the text after it has escapes
pub record Style : Type 0 where
  pub mark : Text
  pub escapes : Bool

-- the style of a literal that begins with this text
unfoldable pub style : Text → Style
style text =
    if starts_with nat_eq text (codes "'''") then record { mark = codes "'''"; escapes = false } else
    if starts_with nat_eq text (codes "'") then record { mark = codes "'"; escapes = false } else
    if starts_with nat_eq text (codes "\"\"\"") then record { mark = codes "\"\"\""; escapes = true } else
    record { mark = codes "\""; escapes = true }

-- ---- escapes

-- what comes before the next byte: nothing, a backslash, `\u`, or `\u{` and this text
pub data Escape : Type 0 where
  NoEscape : Escape
  Backslash : Escape
  Unicode : Escape
  Digits : Text → Escape

-- a text after a front
abbrev pub after_front : Text → Option Text → Option Text
after_front front text = option_map (λ t. front ++ t) text

-- the value of a hexadecimal digit, if a byte is one
abbrev pub hex_digit : ℕ → Option ℕ
hex_digit byte =
    if nat_le 48 byte && nat_le byte 57 then Some (byte - 48) else
    if nat_le 97 byte && nat_le byte 102 then Some (byte - 87) else
    if nat_le 65 byte && nat_le byte 70 then Some (byte - 55) else
    None

-- the number that hexadecimal digits are, after digits of this number
abbrev pub hexadecimal_after : ℕ → Text → Option ℕ
hexadecimal_after value [] = Some value
hexadecimal_after value (byte ∷ rest) =
    option_and_then (λ digit. hexadecimal_after (value * 16 + digit) rest) (hex_digit byte)

-- the character of a number, if it has one
abbrev pub scalar : ℕ → Option ℕ
scalar n = if nat_lt n 55296 || (nat_le 57344 n && nat_lt n 1114112) then Some n else None

-- the character of one to six hexadecimal digits
unfoldable pub character : Text → Option ℕ
character digits =
    if nat_lt 0 (length digits) && nat_lt (length digits) 7 then option_and_then scalar (hexadecimal_after 0 digits)
    else None

-- the character that a byte after a backslash means; a newline means none
abbrev pub escape_meaning : ℕ → Option (Option ℕ)
escape_meaning byte =
    if byte == 10 then Some None else
    if byte == 110 then Some (Some 10) else
    if byte == 114 then Some (Some 13) else
    if byte == 116 then Some (Some 9) else
    if byte == 92 then Some (Some 92) else
    if byte == 34 then Some (Some 34) else
    None

-- the text of a character, if there is one
abbrev pub meant : Option ℕ → Text
meant None = []
meant (Some c) = encode_utf8 c

-- the text in which each escape is what it means; a bad escape means nothing
abbrev pub unescaped : Escape → Text → Option Text
unescaped NoEscape [] = Some []
unescaped NoEscape (byte ∷ rest) =
    if byte == 92 then unescaped Backslash rest else after_front (byte ∷ []) (unescaped NoEscape rest)
unescaped Backslash [] = None
unescaped Backslash (byte ∷ rest) =
    if byte == 117
    then unescaped Unicode rest
    else option_and_then (λ c. after_front (meant c) (unescaped NoEscape rest)) (escape_meaning byte)
unescaped Unicode [] = None
unescaped Unicode (byte ∷ rest) = if byte == 123 then unescaped (Digits []) rest else None
unescaped (Digits digits) [] = None
unescaped (Digits digits) (byte ∷ rest) =
    if byte == 125
    then option_and_then (λ c. after_front (encode_utf8 c) (unescaped NoEscape rest)) (character digits)
    else unescaped (Digits (digits ++ byte ∷ [])) rest

-- the text without escapes, if the style has them
unfoldable pub cooked : Style → Text → Option Text
cooked s text = if s.escapes then unescaped NoEscape text else Some text

-- ---- literals

-- a text without these bytes at its front, and at its end, if it has them
unfoldable pub without_front : Text → Text → Text
without_front front text = if starts_with nat_eq text front then drop (length front) text else text

unfoldable pub without_end_mark : Text → Text → Text
without_end_mark end text = if ends_with nat_eq text end then take (length text - length end) text else text

-- a literal of this written form, with this text
abbrev pub literal : Style → Text → Option Text → Option Literal
literal s lexeme text =
    option_map (λ cooked. record { cooked = cooked; lexeme = lexeme; indented = nat_lt 1 (length s.mark) }) text

-- the text between two marks, unindented if it is indented
abbrev pub between_marks : Style → Text → Text
between_marks s lexeme = without_end_mark s.mark (without_front s.mark lexeme)

abbrev pub unindented_by_style : Style → Text → Text
unindented_by_style s text = if nat_lt 1 (length s.mark) then unindented text else text

-- the literal of this written form, whose text may have escapes
abbrev pub literal_of : Style → Text → Text → Option Literal
literal_of s lexeme text = literal s lexeme (cooked s text)

-- the literal that a string is
unfoldable pub string_literal : Text → Option Literal
string_literal lexeme = let s = style lexeme in literal_of s lexeme (unindented_by_style s (between_marks s lexeme))

-- ---- format strings

-- `{{{{` means `{{`. The first skipped bytes are dropped without a look.
abbrev pub braces : ℕ → Text → Text
braces skipped [] = []
braces (suc skipped) (byte ∷ rest) = braces skipped rest
braces zero (byte ∷ rest) =
    if starts_with nat_eq (byte ∷ rest) (codes "{{{{") then codes "{{" ++ braces 3 rest else byte ∷ braces 0 rest

-- a string that is a format string without interpolations
unfoldable pub is_format : Text → Bool
is_format lexeme = starts_with nat_eq lexeme (codes "f")

-- a format string after its first letter
abbrev pub format_text : Text → Text
format_text lexeme = without_front (codes "f") lexeme

-- the style of a format string
abbrev pub format_style : Text → Style
format_style lexeme = style (format_text lexeme)

-- the literal of a piece of a format string with this written form, between these texts
unfoldable pub piece_literal : Style → Text → Text → Text → Text → Option Literal
piece_literal s lexeme text front end = literal_of s lexeme (braces 0 (without_end_mark end (without_front front text)))

-- a format string without interpolations
abbrev pub whole_format : Text → Option Literal
whole_format lexeme =
    let s = format_style lexeme in piece_literal s lexeme (format_text lexeme) s.mark s.mark

-- the text before the first interpolation
abbrev pub start_of_format : Text → Option Literal
start_of_format lexeme =
    let s = format_style lexeme in piece_literal s lexeme (format_text lexeme) s.mark (codes "{{")

-- the text between two interpolations
abbrev pub middle_of_format : Style → Text → Option Literal
middle_of_format s lexeme = piece_literal s lexeme lexeme (codes "}}") (codes "{{")

-- the text after the last one
abbrev pub end_of_format : Style → Text → Option Literal
end_of_format s lexeme = piece_literal s lexeme lexeme (codes "}}") s.mark

-- ---- strings and backticks

-- the literal of a token of a string
abbrev pub written : Text → Option Literal
written lexeme = if is_format lexeme then whole_format lexeme else string_literal lexeme

-- the command of a backtick
unfoldable pub backtick_command : Text → Text
backtick_command lexeme =
    if starts_with nat_eq lexeme (codes "```")
    then unindented (without_end_mark (codes "```") (without_front (codes "```") lexeme))
    else without_end_mark (codes "`") (without_front (codes "`") lexeme)
