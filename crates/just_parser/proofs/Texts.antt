-- The items of a text.
use Rattle.just_syntax.specs.Plain.{Text}
use Rattle.just_lexer.specs.Lexes.{IsLexed, Whole}
use Rattle.just_expression_parser.specs.Tokens.{Tokens, significant}
use Rattle.just_parser.specs.Items.{items}
use Rattle.just_parser.specs.Parsed.{IsNoJustfile, IsPhraseRefused}
use Rattle.just_parser.specs.declared.parse_error.ParseError.{ParseError}
use Rattle.just_parser.specs.declared.parse_error.ParseError.TheVariants.{Lex, OutOfMemory, Unexpected}

-- a refusal of the tokens is one of the text
pub no_justfile : (path source : Text) (ts : Tokens) (error : ParseError) → IsLexed path source ts Whole
    → IsPhraseRefused (items (significant ts)) error → IsNoJustfile path source error
no_justfile path source ts (Unexpected fault token) lexed refused = (ts, lexed, refused)
no_justfile path source ts (Lex kind token) lexed refused = absurd refused
no_justfile path source ts OutOfMemory lexed refused = tt
