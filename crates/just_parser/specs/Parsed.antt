-- What the program's values stand for.
use Rattle.std.specs.Prelude.{◌≡◌, List, Option, Some, None, option_map}
use Rattle.just_syntax.specs.Plain.{Text, Token}
use Rattle.just_syntax.specs.View.{token_view}
use Rattle.just_lexer.specs.Lexes.{Faulty, IsLexed, Whole}
use Rattle.just_expression_parser.specs.Parsed.{first_of, tokens}
use Rattle.just_expression_parser.specs.Tokens.{Tokens, significant}
use Rattle.just_expression_parser.specs.declared.parse_error.ParseError as syntax
use Rattle.just_expression_parser.specs.declared.parse_error.ParseError.TheVariants as syntax_errors
use Rattle.just_parser.specs.Items.{items}
use Rattle.just_parser.specs.Plain.{Item}
use Rattle.just_parser.specs.Phrase.{Parsed, Read, Refused}
use Rattle.just_parser.specs.declared.parse_error.Fault.{Fault}
use Rattle.just_parser.specs.declared.parse_error.Fault.TheVariants.{Syntax}
use Rattle.just_parser.specs.declared.parse_error.ParseError.{ParseError}
use Rattle.just_parser.specs.declared.parse_error.ParseError.TheVariants.{Lex, Unexpected, OutOfMemory}
use Rattle.just_parser.specs.declared.parser.Parser.{Parser}

-- the tokens that a parser has left
abbrev pub unread : Parser → Tokens
unread parser = tokens parser.cursor

-- the token of an error, if it has one
abbrev pub parse_error_token : ParseError → Option Token
parse_error_token (Lex kind token) = Some (token_view token)
parse_error_token (Unexpected fault token) = option_map token_view token
parse_error_token OutOfMemory = None

-- the next token is refused for this fault
abbrev pub IsPhraseRefusalAt : Fault → Tokens → ParseError → Type 0
IsPhraseRefusalAt fault ts (Unexpected found token) = (found ≡ fault) × (option_map token_view token ≡ first_of ts)
IsPhraseRefusalAt fault ts _ = ⊥

-- the same refusal
abbrev pub IsSameRefusal : syntax.ParseError → ParseError → Type 0
IsSameRefusal (syntax_errors.Unexpected fault token) error = error ≡ Unexpected (Syntax fault) token
IsSameRefusal syntax_errors.OutOfMemory error = error ≡ OutOfMemory

-- reading is refused so; of `OutOfMemory` nothing is said
abbrev pub IsPhraseRefused : {A : Type 0} → Parsed A → ParseError → Type 0
IsPhraseRefused outcome (Unexpected fault token) =
    (at : Tokens) × (outcome ≡ Refused fault at) × (option_map token_view token ≡ first_of at)
IsPhraseRefused outcome (Lex kind token) = ⊥
IsPhraseRefused outcome OutOfMemory = Unit {0}

-- ---- whole texts

-- these are the items of a text
abbrev pub AreItems : Text → Text → List Item → Type 0
AreItems path source all =
    (tokens : Tokens) × IsLexed path source tokens Whole × (rest : Tokens)
    × (items (significant tokens) ≡ Read all rest)

-- a text has no items, for this reason; of `OutOfMemory` nothing is said
abbrev pub IsNoJustfile : Text → Text → ParseError → Type 0
IsNoJustfile path source (Lex kind token) =
    (tokens : Tokens) × IsLexed path source tokens (Faulty kind (token_view token))
IsNoJustfile path source (Unexpected fault token) =
    (tokens : Tokens) × IsLexed path source tokens Whole
    × IsPhraseRefused (items (significant tokens)) (Unexpected fault token)
IsNoJustfile path source OutOfMemory = Unit {0}
