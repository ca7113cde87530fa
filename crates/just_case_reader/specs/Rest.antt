-- The text after the word of a line.
use Rattle.std.specs.Prelude.{List, ℕ, ◌+◌, ◌-◌, ◌*◌, Bool, false, [], ◌∷◌, ◌&&◌, ◌==◌, nat_le, length, Option}
use Rattle.std.specs.Prelude.{Some, None, if◌then◌else◌}
use Rattle.std.specs.List.{list_all, before_first, after_first, slice_split}
use Rattle.std.specs.Option.{option_map}
use Rattle.just_syntax.specs.Plain.{Text}
use Rattle.just_syntax.specs.NameBytes.{is_between, is_name_part, is_name_start}

abbrev pub is_name : Text → Bool
is_name [] = false
is_name (first ∷ rest) = is_name_start first && list_all is_name_part rest

-- the number whose digits are those of n followed by these
abbrev pub decimal_after : ℕ → Text → Option ℕ
decimal_after n [] = Some n
decimal_after n (digit ∷ digits) = if is_between 48 57 digit then decimal_after (10 * n + (digit - 48)) digits else None

abbrev pub at_most : ℕ → Option ℕ → Option ℕ
at_most most None = None
at_most most (Some n) = if nat_le n most then Some n else None

-- the number given by one to four digits, if it is at most 1000
abbrev pub number : Text → Option ℕ
number text = if is_between 1 4 (length text) then at_most 1000 (decimal_after 0 text) else None

-- a text up to its first space
abbrev pub word_of : Text → Text
word_of text = before_first (λ byte. byte == 32) text

-- the text after the first space
abbrev pub rest_of : Text → Text
rest_of text = after_first (λ byte. byte == 32) text

-- the pieces between spaces
abbrev pub spaced_pieces : Text → List Text
spaced_pieces text = slice_split (λ byte. byte == 32) text

-- the pieces, if each is a name
abbrev pub if_names : List Text → Option (List Text)
if_names [] = Some []
if_names (piece ∷ pieces) = if is_name piece then option_map (λ names. piece ∷ names) (if_names pieces) else None

-- the names in a text, separated by single spaces, if it contains nothing else
abbrev pub names : Text → Option (List Text)
names text = if length text == 0 then Some [] else if_names (spaced_pieces text)
