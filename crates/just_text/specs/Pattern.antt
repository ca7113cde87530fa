-- Texts without a pattern at their ends.
use Rattle.std.specs.Prelude.{◌≡◌, ℕ, zero, suc, ◌-◌, ◌<◌, false, if◌then◌else◌, length, take, drop, nat_eq}
use Rattle.std.specs.List.{starts_with, ends_with}
use Rattle.just_syntax.specs.Plain.{Text}

-- the text without the pattern at its start, if it begins with it
abbrev pub without_start : Text → Text → Text
without_start pattern text = if starts_with nat_eq text pattern then drop (length pattern) text else text

-- the text without the pattern at its end, if it ends with it
abbrev pub without_end : Text → Text → Text
without_end pattern text = if ends_with nat_eq text pattern then take (length text - length pattern) text else text

-- f applied n times
abbrev pub times : ℕ → (Text → Text) → Text → Text
times zero f text = text
times (suc n) f text = times n f (f text)

-- the same as often as the pattern occurs there, which is at most as often as the text is long
unfoldable pub without_starts : Text → Text → Text
without_starts pattern text = times (length text) (without_start pattern) text

unfoldable pub without_ends : Text → Text → Text
without_ends pattern text = times (length text) (without_end pattern) text

-- the result does not begin with the pattern, or end with it
abbrev pub LeavesNoneAtStart : Type 0
LeavesNoneAtStart =
    (pattern text : Text) → 0 < length pattern → starts_with nat_eq (without_starts pattern text) pattern ≡ false

abbrev pub LeavesNoneAtEnd : Type 0
LeavesNoneAtEnd =
    (pattern text : Text) → 0 < length pattern → ends_with nat_eq (without_ends pattern text) pattern ≡ false
