-- Faults, by their tokens.
use Rattle.std.specs.Prelude.{List, Option, Some, None}
use Rattle.just_syntax.specs.Plain.{Text, Token}
use Rattle.just_syntax.specs.View.{token_view}
use Rattle.just_lexer.specs.Laws.{IsTokenPlaced}
use Rattle.just_lexer.specs.Lexes.{Faulty, IsLexed}
use Rattle.just_lexer.specs.State.{Lexeme}
use Rattle.just_lexer.specs.declared.lex_error.LexError.{LexError}
use Rattle.just_lexer.specs.declared.lex_error.LexError.TheVariants.{Fault, OutOfMemory}

-- the token at which a fault is
abbrev pub lex_error_token : LexError → Option Token
lex_error_token (Fault kind token) = Some (token_view token)
lex_error_token OutOfMemory = None

-- the token of a fault is at the place of its offset
abbrev pub IsFaultPlaced : Text → Text → LexError → Type 0
IsFaultPlaced path source (Fault kind token) = IsTokenPlaced path source (token_view token)
IsFaultPlaced path source OutOfMemory = Unit {0}

-- after some tokens of the text this fault comes; nothing is said if memory ran out
abbrev pub IsFirstLexicalFault : Text → Text → LexError → Type 0
IsFirstLexicalFault path source (Fault kind token) =
    (lexemes : List Lexeme) × IsLexed path source lexemes (Faulty kind (token_view token))
IsFirstLexicalFault path source OutOfMemory = Unit {0}
