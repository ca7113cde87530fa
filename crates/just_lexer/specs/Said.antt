-- The texts of kinds and faults.
use Rattle.std.specs.Prelude.{Bool, true, false, ◌++◌, codes, if◌then◌else◌}
use Rattle.just_syntax.specs.OutOfMemory.{no_memory_text}
use Rattle.just_syntax.specs.Plain.{Text}
use Rattle.just_lexer.specs.declared.fault.FaultKind.{FaultKind}
use Rattle.just_lexer.specs.declared.fault.FaultKind.TheVariants as faults
use Rattle.just_lexer.specs.declared.kind.TokenKind.{TokenKind}
use Rattle.just_lexer.specs.declared.kind.TokenKind.TheVariants as kinds
use Rattle.just_lexer.specs.declared.lex_error.LexError.{LexError}
use Rattle.just_lexer.specs.declared.lex_error.LexError.TheVariants as errors

abbrev pub kind_text : TokenKind → Text
kind_text kinds.AmpersandAmpersand = codes "'&&'"
kind_text kinds.Asterisk = codes "'*'"
kind_text kinds.At = codes "'@'"
kind_text kinds.Backtick = codes "backtick"
kind_text kinds.Bang = codes "'!'"
kind_text kinds.BangEquals = codes "'!='"
kind_text kinds.BangTilde = codes "'!~'"
kind_text kinds.BarBar = codes "'||'"
kind_text kinds.BraceL = codes "'{'"
kind_text kinds.BraceR = codes "'}'"
kind_text kinds.BracketL = codes "'['"
kind_text kinds.BracketR = codes "']'"
kind_text kinds.ByteOrderMark = codes "byte order mark"
kind_text kinds.Colon = codes "':'"
kind_text kinds.ColonColon = codes "'::'"
kind_text kinds.ColonEquals = codes "':='"
kind_text kinds.Comma = codes "','"
kind_text kinds.Comment = codes "comment"
kind_text kinds.Dedent = codes "dedent"
kind_text kinds.Dollar = codes "'$'"
kind_text kinds.Eof = codes "end of file"
kind_text kinds.Eol = codes "end of line"
kind_text kinds.Equals = codes "'='"
kind_text kinds.EqualsEquals = codes "'=='"
kind_text kinds.EqualsTilde = codes "'=~'"
kind_text kinds.FormatStringContinue = codes "format string continue"
kind_text kinds.FormatStringEnd = codes "format string end"
kind_text kinds.FormatStringStart = codes "format string start"
kind_text kinds.Identifier = codes "identifier"
kind_text kinds.Indent = codes "indent"
kind_text kinds.InterpolationEnd = codes "'}}'"
kind_text kinds.InterpolationStart = codes "'{{'"
kind_text kinds.ParenL = codes "'('"
kind_text kinds.ParenR = codes "')'"
kind_text kinds.Plus = codes "'+'"
kind_text kinds.PlusPlus = codes "'++'"
kind_text kinds.QuestionMark = codes "'?'"
kind_text kinds.Slash = codes "'/'"
kind_text kinds.StringToken = codes "string"
kind_text kinds.Text = codes "command text"
kind_text kinds.Whitespace = codes "whitespace"

-- what is wrong, in words
abbrev pub fault_words : FaultKind → Text
fault_words faults.InconsistentIndentation = codes "recipe line has inconsistent leading whitespace"
fault_words faults.InvalidEscape = codes "backslash before the end of a line"
fault_words (faults.MismatchedClosingDelimiter delimiter line) = codes "mismatched closing delimiter"
fault_words faults.MixedIndentation = codes "found a mix of tabs and spaces in leading whitespace"
fault_words faults.ShellExpandedString = codes "shell-expanded strings are not supported"
fault_words faults.UnclosedDelimiter = codes "unclosed delimiter"
fault_words faults.UnexpectedClosingDelimiter = codes "unexpected closing delimiter"
fault_words faults.UnexpectedIndentation = codes "unexpected indentation"
fault_words faults.UnknownStart = codes "unknown start of token"
fault_words faults.UnpairedCarriageReturn = codes "unpaired carriage return"
fault_words faults.UnterminatedBacktick = codes "unterminated backtick"
fault_words faults.UnterminatedFormatString = codes "unterminated format string"
fault_words faults.UnterminatedInterpolation = codes "unterminated interpolation"
fault_words faults.UnterminatedString = codes "unterminated string"

-- the text of the token follows these words
abbrev pub names_token : FaultKind → Bool
names_token (faults.MismatchedClosingDelimiter delimiter line) = true
names_token faults.UnclosedDelimiter = true
names_token faults.UnexpectedClosingDelimiter = true
names_token faults.UnknownStart = true
names_token _ = false

-- what is wrong at a token of this text
abbrev pub lexical_fault_text : FaultKind → Text → Text
lexical_fault_text kind lexeme =
    if names_token kind then fault_words kind ++ codes " `" ++ lexeme ++ codes "`" else fault_words kind

abbrev pub lex_error_text : LexError → Text
lex_error_text (errors.Fault kind token) = lexical_fault_text kind token.lexeme.now
lex_error_text errors.OutOfMemory = no_memory_text
