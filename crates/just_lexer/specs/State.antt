-- The state of lexing.
use Rattle.std.specs.Prelude.{Bool, false, List, [], ◌∷◌, Option, Some, None}
use Rattle.just_syntax.specs.Plain.{Text, Place, Token}
use Rattle.just_syntax.specs.Place.{start_of, token_at}
use Rattle.just_lexer.specs.declared.inside.Inside.{Inside}
use Rattle.just_lexer.specs.declared.kind.TokenKind.{TokenKind}

-- a token and its kind
pub record Lexeme : Type 0 where
  pub kind : TokenKind
  pub token : Token

-- what is open, and the token that opened it
pub record Opening : Type 0 where
  pub inside : Inside
  pub token : Token

-- The place of what comes next; what is open, the innermost first; the indentation of the recipe's body, which is
-- empty outside of bodies; whether a line has begun; and whether the line, or the last line that is not blank, has a
-- colon, so that a body may follow.
pub record State : Type 0 where
  pub place : Place
  pub openings : List Opening
  pub indentation : Text
  pub in_line : Bool
  pub has_colon : Bool

-- the innermost of what is open
abbrev pub innermost_open : List Opening → Option Inside
innermost_open [] = None
innermost_open (opening ∷ openings) = Some opening.inside

-- the token that opened it; without one, an empty token
abbrev pub opening_token : State → List Opening → Token
opening_token s [] = token_at s.place []
opening_token s (opening ∷ openings) = opening.token

-- the state at the start of the file with this path
abbrev pub start_state : Text → State
start_state path =
    record { place = start_of path; openings = []; indentation = []; in_line = false; has_colon = false }
