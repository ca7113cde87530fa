-- The tokens of a case, as plain data.
use Rattle.std.specs.Prelude.{codes}
use Rattle.just_syntax.specs.Plain.{Text, Token}

-- a token of a case; all tokens are at the start of the same file
abbrev pub token_of : Text → Token
token_of lexeme = record { column = 0; line = 0; offset = 0; lexeme = lexeme; path = codes "justfile" }
