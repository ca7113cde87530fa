-- A report: what an error says, where it is, and the line of source there, with marks under the token.
use Rattle.std.specs.Prelude.{ℕ, zero, suc, ◌+◌, ◌-◌, ◌==◌, max, min, nat_le, false, if◌then◌else◌}
use Rattle.std.specs.Prelude.{List, [], ◌∷◌, ◌++◌, length}
use Rattle.std.specs.Prelude.{chars, codes, decimal, encode_utf8, encode_utf8_all, flat_map, unwrap_or}
use Rattle.std.specs.Option.{is_some}
use Rattle.std.specs.List.{repeat, slice_get}
use Rattle.std.specs.Str.Lines.{lines}
use Rattle.just_syntax.specs.Plain.{Text, Token}
use Rattle.unicode_width.specs.Width.{char_width}

-- a line by its number, counted from 0; no text after the last
abbrev pub line_at : ℕ → Text → Text
line_at n source = unwrap_or (slice_get (lines source) n) []

-- how many columns a character takes: four for a tab, none for another control character
abbrev pub columns : ℕ → ℕ
columns c = if c == 9 then 4 else unwrap_or (char_width false c) 0

-- a character as it is shown: four spaces for a tab, nothing for another control character
abbrev pub shown_character : ℕ → Text
shown_character c = if c == 9 then repeat 4 (32 ∷ []) else if is_some (char_width false c) then encode_utf8 c else []

-- a line, which is given by its characters, as it is shown
abbrev pub shown_line : List ℕ → Text
shown_line cs = flat_map shown_character cs

-- a space for each column of the characters that begin in the first `before` bytes, and a `^` for each column of those
-- that begin in the next `left` bytes
abbrev pub pointer : ℕ → ℕ → List ℕ → Text
pointer before left [] = []
pointer zero zero (c ∷ cs) = []
pointer zero (suc left) (c ∷ cs) = repeat (columns c) (94 ∷ []) ++ pointer zero (suc left - length (encode_utf8 c)) cs
pointer (suc before) left (c ∷ cs) =
    repeat (columns c) (32 ∷ []) ++ pointer (suc before - length (encode_utf8 c)) left cs

-- the marks under a token; one mark if its line ends before it
abbrev pub marks : Token → Text → Text
marks t line =
    pointer t.column (max 1 (length t.lexeme)) (chars line) ++ (if nat_le (length line) t.column then 94 ∷ [] else [])

-- a number that is counted from 0 and printed from 1, at most the greatest that a `usize` holds
abbrev pub ordinal : ℕ → ℕ
ordinal n = min (n + 1) 18446744073709551615

-- as many spaces as a number has digits
abbrev pub padding : Text → Text
padding number = repeat (length number) (32 ∷ [])

abbrev pub arrow : Text
arrow = encode_utf8_all (codes "——▶ ")

abbrev pub bar : Text
bar = encode_utf8_all (codes " │")

-- the line that has a token's path, line and column
abbrev pub place_line : Text → Token → Text
place_line number t =
    padding number ++ (arrow ++ (t.path ++ (58 ∷ number ++ (58 ∷ decimal (ordinal t.column) ++ 10 ∷ []))))

-- a line of the source after its number
abbrev pub numbered_source_line : Text → Text → Text
numbered_source_line number line = number ++ (bar ++ (32 ∷ shown_line (chars line) ++ 10 ∷ []))

-- an empty line, and the line of the source
abbrev pub source_lines : Text → Text → Text
source_lines number line = padding number ++ (bar ++ (10 ∷ numbered_source_line number line))

-- the line that has the marks
abbrev pub mark_line : Text → Token → Text → Text
mark_line number t line = padding number ++ (bar ++ (32 ∷ marks t line ++ 10 ∷ []))

-- the message, the place, and the line there with marks under the token
abbrev pub report_in_line : Text → Token → Text → Text
report_in_line message t line =
    let number = decimal (ordinal t.line) in
    codes "error: " ++ (message ++ (10 ∷ place_line number t ++ (source_lines number line ++ mark_line number t line)))

-- the same, from a source that has the line
abbrev pub report : Text → Token → Text → Text
report message t source = report_in_line message t (line_at t.line source)
