-- What a text begins with.
use Rattle.std.specs.Prelude.{ℕ, Bool, [], ◌∷◌, ◌&&◌, nat_le, nat_lt, nat_eq, codes, if◌then◌else◌}
use Rattle.std.specs.List.{starts_with}
use Rattle.just_syntax.specs.Plain.{Text}

-- the text begins with these bytes
unfoldable pub begins_with : Text → Text → Bool
begins_with text front = starts_with nat_eq text front

-- the length of the line end that a text begins with, or 0
unfoldable pub line_end_length : Text → ℕ
line_end_length text = if begins_with text (codes "\n") then 1 else if begins_with text (codes "\r\n") then 2 else 0

-- the first byte, or 0
abbrev pub leading_byte : Text → ℕ
leading_byte [] = 0
leading_byte (byte ∷ rest) = byte

-- a byte that is not the first of its character
abbrev pub is_continuation : ℕ → Bool
is_continuation byte = nat_le 128 byte && nat_lt byte 192
