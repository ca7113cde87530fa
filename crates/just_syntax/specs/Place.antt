-- The places of tokens.
use Rattle.std.specs.Prelude.{[], Option, Some, None}
use Rattle.just_syntax.specs.Plain.{Text, Place, Token}

-- the start of a file
abbrev pub start_of : Text → Place
start_of path = record { column = 0; line = 0; offset = 0; path = path }

-- the token of a text at a place
abbrev pub token_at : Place → Text → Token
token_at place lexeme =
    record { column = place.column; line = place.line; offset = place.offset; lexeme = lexeme; path = place.path }

-- the token of a text at a place; without a place, at the start of a file whose path is empty
abbrev pub placed : Option Place → Text → Token
placed (Some place) lexeme = token_at place lexeme
placed None lexeme = token_at (start_of []) lexeme
