-- What comes next in an expression.
use Rattle.std.specs.Prelude.{ℕ, ◌+◌, ◌||◌, nat_le, nat_lt, length, drop, Option, Some, None, codes, unwrap_or}
use Rattle.std.specs.Prelude.{if◌then◌else◌}
use Rattle.just_syntax.specs.Plain.{Text}
use Rattle.just_syntax.specs.NameBytes.{is_name_start}
use Rattle.just_syntax.specs.Unindented.{is_gap}
use Rattle.just_lexer.specs.Front.{begins_with, leading_byte, line_end_length}
use Rattle.just_lexer.specs.Inside.{same_delimiter}
use Rattle.just_lexer.specs.Quote.{delimiter, quote_at, string_kind, unterminated}
use Rattle.just_lexer.specs.Span.{span}
use Rattle.just_lexer.specs.declared.fault.FaultKind.TheVariants as faults
use Rattle.just_lexer.specs.declared.inside.Delimiter.{Delimiter}
use Rattle.just_lexer.specs.declared.inside.Delimiter.TheVariants.{Brace, Bracket, Paren}
use Rattle.just_lexer.specs.declared.inside.Inside.{Inside}
use Rattle.just_lexer.specs.declared.inside.Inside.TheVariants as insides
use Rattle.just_lexer.specs.declared.kind.TokenKind.{TokenKind}
use Rattle.just_lexer.specs.declared.kind.TokenKind.TheVariants as kinds
use Rattle.just_lexer.specs.declared.quote.Quote.{Quote}
use Rattle.just_lexer.specs.declared.quote.Quote.TheVariants.{Raw}
use Rattle.just_lexer.specs.declared.span.Rule.TheVariants.{Blanks, Character, Comment, Name, Piece, Quoted}
use Rattle.just_lexer.specs.declared.step.Step.{Step}
use Rattle.just_lexer.specs.declared.step.Step.TheVariants.{Token, Fault, OpenFault}

-- ---- strings

-- a string or a backtick; the second mark ends it
unfoldable pub lexed_string : Quote → Text → Step
lexed_string quote text =
    let mark = length (delimiter quote) in
    let end = mark + span (Quoted quote) 0 (drop mark text) in
    if nat_lt end (length text) then Token (string_kind quote) (end + mark) else Fault (unterminated quote) mark

-- A piece of a format string, whose text comes after its first bytes. It ends with `{{` or with the second mark.
unfoldable pub lexed_piece : Quote → ℕ → TokenKind → TokenKind → Text → Step
lexed_piece quote opening opens closes text =
    let end = opening + span (Piece quote) 0 (drop opening text) in
    if nat_le (length text) end then Fault faults.UnterminatedFormatString opening else
    if begins_with (drop end text) (codes "{{") then Token opens (end + 2) else
    Token closes (end + length (delimiter quote))

-- the mark after a letter
unfoldable pub mark_after_letter : Text → Quote
mark_after_letter text = unwrap_or (quote_at (drop 1 text)) Raw

-- a format string up to its first interpolation, or the whole of it
unfoldable pub format_string : Quote → Text → Step
format_string quote text =
    lexed_piece quote (1 + length (delimiter quote)) kinds.FormatStringStart kinds.StringToken text

-- ---- names

unfoldable pub lexed_name : Text → Step
lexed_name text =
    if begins_with text (codes "x'") || begins_with text (codes "x\"") then Fault faults.ShellExpandedString 1 else
    if begins_with text (codes "f'") || begins_with text (codes "f\"")
    then format_string (mark_after_letter text) text else
    Token kinds.Identifier (span Name 0 text)

-- ---- white space

-- A line end is white space inside of delimiters, and ends an interpolation too early.
unfoldable pub end_of_line : Option Inside → ℕ → Step
end_of_line None length = Token kinds.Eol length
end_of_line (Some (insides.Delimiter opened line)) length = Token kinds.Whitespace length
end_of_line (Some insides.Interpolation) length = OpenFault faults.UnterminatedInterpolation
end_of_line (Some (insides.FormatString quote)) length = OpenFault faults.UnterminatedInterpolation

-- a backslash at the end of a line continues it
unfoldable pub backslash : Text → Step
backslash text =
    let length = line_end_length (drop 1 text) in
    if nat_lt 0 length then Token kinds.Whitespace (1 + length) else Fault faults.InvalidEscape 1

-- ---- delimiters and operators

-- a closing delimiter closes the innermost of what is open
unfoldable pub closing_token : Delimiter → TokenKind → Option Inside → Step
closing_token close kind None = Fault faults.UnexpectedClosingDelimiter 1
closing_token close kind (Some insides.Interpolation) = Fault faults.UnexpectedClosingDelimiter 1
closing_token close kind (Some (insides.FormatString quote)) = Fault faults.UnexpectedClosingDelimiter 1
closing_token close kind (Some (insides.Delimiter opened line)) =
    if same_delimiter opened close then Token kind 1 else Fault (faults.MismatchedClosingDelimiter opened line) 1

-- `}}` ends an interpolation; inside of delimiters it is two closing braces
unfoldable pub closing_braces : Option Inside → Text → Step
closing_braces None text = closing_token Brace kinds.BraceR None
closing_braces (Some insides.Interpolation) text = Token kinds.InterpolationEnd 2
closing_braces (Some (insides.FormatString quote)) text =
    lexed_piece quote 2 kinds.FormatStringContinue kinds.FormatStringEnd text
closing_braces (Some (insides.Delimiter opened line)) text = closing_token Brace kinds.BraceR
    (Some (insides.Delimiter opened line))

-- an opening delimiter or an operator, the longest first
unfoldable pub operator : Text → Step
operator text =
    if begins_with text (codes ":=") then Token kinds.ColonEquals 2 else
    if begins_with text (codes "::") then Token kinds.ColonColon 2 else
    if begins_with text (codes ":") then Token kinds.Colon 1 else
    if begins_with text (codes "(") then Token kinds.ParenL 1 else
    if begins_with text (codes "[") then Token kinds.BracketL 1 else
    if begins_with text (codes "{") then Token kinds.BraceL 1 else
    if begins_with text (codes ",") then Token kinds.Comma 1 else
    if begins_with text (codes "++") then Token kinds.PlusPlus 2 else
    if begins_with text (codes "+") then Token kinds.Plus 1 else
    if begins_with text (codes "/") then Token kinds.Slash 1 else
    if begins_with text (codes "==") then Token kinds.EqualsEquals 2 else
    if begins_with text (codes "=~") then Token kinds.EqualsTilde 2 else
    if begins_with text (codes "=") then Token kinds.Equals 1 else
    if begins_with text (codes "!=") then Token kinds.BangEquals 2 else
    if begins_with text (codes "!~") then Token kinds.BangTilde 2 else
    if begins_with text (codes "!") then Token kinds.Bang 1 else
    if begins_with text (codes "&&") then Token kinds.AmpersandAmpersand 2 else
    if begins_with text (codes "||") then Token kinds.BarBar 2 else
    if begins_with text (codes "@") then Token kinds.At 1 else
    if begins_with text (codes "$") then Token kinds.Dollar 1 else
    if begins_with text (codes "*") then Token kinds.Asterisk 1 else
    if begins_with text (codes "?") then Token kinds.QuestionMark 1 else
    Fault faults.UnknownStart (1 + span Character 0 (drop 1 text))

unfoldable pub symbol : Option Inside → Text → Step
symbol inside text =
    if begins_with text (codes "}}") then closing_braces inside text else
    if begins_with text (codes "}") then closing_token Brace kinds.BraceR inside else
    if begins_with text (codes ")") then closing_token Paren kinds.ParenR inside else
    if begins_with text (codes "]") then closing_token Bracket kinds.BracketR inside else
    operator text

-- ---- expressions

-- a string, a backtick or a symbol
unfoldable pub string_or_symbol : Option Quote → Option Inside → Text → Step
string_or_symbol (Some quote) inside text = lexed_string quote text
string_or_symbol None inside text = symbol inside text

-- what comes next in an expression that is inside of this
unfoldable pub lexed_expression : Option Inside → Text → Step
lexed_expression inside text =
    if is_gap (leading_byte text) then Token kinds.Whitespace (span Blanks 0 text) else
    if is_name_start (leading_byte text) then lexed_name text else
    if nat_lt 0 (line_end_length text) then end_of_line inside (line_end_length text) else
    if begins_with text (codes "\r") then Fault faults.UnpairedCarriageReturn 1 else
    if begins_with text (codes "\\") then backslash text else
    if begins_with text (codes "#") then Token kinds.Comment (span Comment 0 text) else
    string_or_symbol (quote_at text) inside text
