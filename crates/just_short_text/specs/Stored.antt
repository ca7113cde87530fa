-- How a text is stored: in its own value, or allocated.
use Rattle.std.specs.Prelude.{ℕ, List, string_bytes}
use Rattle.just_short_text.specs.declared.text.Stored.{Stored}
use Rattle.just_short_text.specs.declared.text.Stored.TheVariants.{Short, Long}

abbrev pub bytes_of : Stored → List ℕ
bytes_of (Short text) = text.bytes
bytes_of (Long text) = string_bytes text
