-- Quotation marks.
use Rattle.std.specs.Prelude.{Bool, true, false, Option, Some, None, codes, if◌then◌else◌}
use Rattle.just_syntax.specs.Plain.{Text}
use Rattle.just_lexer.specs.Front.{begins_with}
use Rattle.just_lexer.specs.declared.fault.FaultKind.{FaultKind}
use Rattle.just_lexer.specs.declared.fault.FaultKind.TheVariants.{UnterminatedBacktick, UnterminatedString}
use Rattle.just_lexer.specs.declared.kind.TokenKind.{TokenKind}
use Rattle.just_lexer.specs.declared.kind.TokenKind.TheVariants as kinds
use Rattle.just_lexer.specs.declared.quote.Quote.{Quote}
use Rattle.just_lexer.specs.declared.quote.Quote.TheVariants.{Backtick, Cooked, IndentedBacktick, IndentedCooked}
use Rattle.just_lexer.specs.declared.quote.Quote.TheVariants.{IndentedRaw, Raw}

-- the bytes of a mark
abbrev pub delimiter : Quote → Text
delimiter Backtick = codes "`"
delimiter Cooked = codes "\""
delimiter IndentedBacktick = codes "```"
delimiter IndentedCooked = codes "\"\"\""
delimiter IndentedRaw = codes "'''"
delimiter Raw = codes "'"

-- a backslash takes the next character along
abbrev pub is_cooked : Quote → Bool
is_cooked Cooked = true
is_cooked IndentedCooked = true
is_cooked _ = false

-- the mark that a text begins with
unfoldable pub quote_at : Text → Option Quote
quote_at text =
    if begins_with text (codes "```") then Some IndentedBacktick else
    if begins_with text (codes "`") then Some Backtick else
    if begins_with text (codes "\"\"\"") then Some IndentedCooked else
    if begins_with text (codes "\"") then Some Cooked else
    if begins_with text (codes "'''") then Some IndentedRaw else
    if begins_with text (codes "'") then Some Raw else
    None

-- the kind of a token between two marks
abbrev pub string_kind : Quote → TokenKind
string_kind Backtick = kinds.Backtick
string_kind IndentedBacktick = kinds.Backtick
string_kind _ = kinds.StringToken

-- what is wrong if the second mark is missing
abbrev pub unterminated : Quote → FaultKind
unterminated Backtick = UnterminatedBacktick
unterminated IndentedBacktick = UnterminatedBacktick
unterminated _ = UnterminatedString
