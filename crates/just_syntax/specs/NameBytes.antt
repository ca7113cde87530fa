-- Which bytes names are made of.
use Rattle.std.specs.Prelude.{ℕ, Bool, ◌&&◌, ◌||◌, ◌==◌, nat_le}

abbrev pub is_between : ℕ → ℕ → ℕ → Bool
is_between low high byte = nat_le low byte && nat_le byte high

-- a letter or `_`
abbrev pub is_name_start : ℕ → Bool
is_name_start byte = (byte == 95) || (is_between 65 90 byte || is_between 97 122 byte)

-- `-`, a digit, a letter or `_`
abbrev pub is_name_part : ℕ → Bool
is_name_part byte = ((byte == 45) || is_between 48 57 byte) || is_name_start byte
