-- How far pieces of text reach.
use Rattle.std.specs.Prelude.{ℕ, zero, suc, ◌-◌, Bool, [], ◌∷◌, ◌||◌, ◌&&◌, ◌==◌, nat_lt, codes, if◌then◌else◌}
use Rattle.just_syntax.specs.Plain.{Text}
use Rattle.just_syntax.specs.NameBytes.{is_name_part}
use Rattle.just_syntax.specs.Unindented.{is_gap}
use Rattle.just_lexer.specs.Front.{begins_with, is_continuation, leading_byte, line_end_length}
use Rattle.just_lexer.specs.Quote.{delimiter, is_cooked}
use Rattle.just_lexer.specs.declared.quote.Quote.{Quote}
use Rattle.just_lexer.specs.declared.span.Rule.{Rule}
use Rattle.just_lexer.specs.declared.span.Rule.TheVariants.{Blanks, Character, Command, Comment, Name, Piece, Quoted}

abbrev pub one_if : Bool → ℕ
one_if b = if b then 1 else 0

-- The number of bytes that are passed here in a string; 0 at its end. A backslash takes the next byte along.
unfoldable pub passed_in_string : Quote → Text → ℕ
passed_in_string quote text =
    if begins_with text (delimiter quote) then 0 else
    if is_cooked quote && begins_with text (codes "\\") then 2 else
    1

-- the same in a format string, which also stops at an interpolation
unfoldable pub passed_in_piece : Quote → Text → ℕ
passed_in_piece quote text =
    if begins_with text (codes "{{{{") then 4 else
    if begins_with text (codes "{{") then 0 else
    passed_in_string quote text

-- the number of bytes that a rule passes here; 0 if it stops
unfoldable pub passed : Rule → Text → ℕ
passed Blanks text = one_if (is_gap (leading_byte text))
passed Character text = one_if (is_continuation (leading_byte text))
passed Command text =
    if begins_with text (codes "{{{{") then 4 else
    if begins_with text (codes "{{") || nat_lt 0 (line_end_length text) then 0 else
    1
passed Comment text = one_if (line_end_length text == 0)
passed Name text = one_if (is_name_part (leading_byte text))
passed (Piece quote) text = passed_in_piece quote text
passed (Quoted quote) text = passed_in_string quote text

-- The length of the longest front of a text that a rule passes. The first skipped bytes are passed without a look.
abbrev pub span : Rule → ℕ → Text → ℕ
span rule skipped [] = 0
span rule (suc skipped) (byte ∷ rest) = suc (span rule skipped rest)
span rule zero (byte ∷ rest) =
    if passed rule (byte ∷ rest) == 0 then 0 else suc (span rule (passed rule (byte ∷ rest) - 1) rest)
