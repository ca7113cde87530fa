-- What holds of the tokens of a text.
use Rattle.std.specs.Prelude.{◌≡◌, ◌==◌, List, [], ◌∷◌, ◌++◌, length, take, count_by}
use Rattle.std.specs.List.{AllByRecursion}
use Rattle.std.specs.Str.{IsUtf8}
use Rattle.just_syntax.specs.Plain.{Text, Place, Token}
use Rattle.just_syntax.specs.Place.{start_of}
use Rattle.just_lexer.specs.Lexes.{Ending, IsLexed, place_after}
use Rattle.just_lexer.specs.State.{Lexeme}

-- the texts of tokens, one after another
abbrev pub text_of_tokens : List Lexeme → Text
text_of_tokens [] = []
text_of_tokens (lexeme ∷ lexemes) = lexeme.token.lexeme ++ text_of_tokens lexemes

-- the place of a token
abbrev pub token_place : Token → Place
token_place token = record { column = token.column; line = token.line; offset = token.offset; path = token.path }

-- a token is at the place of its offset in the text of a file
abbrev pub IsTokenPlaced : Text → Text → Token → Type 0
IsTokenPlaced path source token = token_place token ≡ place_after (start_of path) (take token.offset source)

-- each token is
abbrev pub AreTokensPlaced : Text → Text → List Lexeme → Type 0
AreTokensPlaced path source lexemes = AllByRecursion (λ lexeme. IsTokenPlaced path source lexeme.token) lexemes

-- a text has one list of tokens, and lexing ends in one way
abbrev pub OneResult : Type 0
OneResult =
    (path source : Text) (first second : List Lexeme) (ends stops : Ending) → IsLexed path source first ends
    → IsLexed path source second stops → (first ≡ second) × (ends ≡ stops)

-- each text has such a list
abbrev pub SomeResult : Type 0
SomeResult =
    (path source : Text) → IsUtf8 source → (lexemes : List Lexeme) × (ending : Ending) × IsLexed path source lexemes
    ending

-- the line of a place is the number of newlines before it, and its offset the number of bytes
abbrev pub PlacesCount : Type 0
PlacesCount =
    (path text : Text) → ((place_after (start_of path) text).line ≡ count_by (λ byte. byte == 10) text)
    × ((place_after (start_of path) text).offset ≡ length text)
