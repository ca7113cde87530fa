-- The tokens of a text: how a token changes the state, and the tokens one after another.
use Rattle.std.specs.Prelude.{ℕ, ◌+◌, ◌≡◌, Bool, true, false, ◌&&◌, ◌||◌, ◌==◌, List, [], ◌∷◌, length, take, drop}
use Rattle.std.specs.Prelude.{Option, Some, None, if◌then◌else◌}
use Rattle.just_syntax.specs.Plain.{Text, Place, Token}
use Rattle.just_syntax.specs.Place.{token_at}
use Rattle.just_lexer.specs.Expression.{mark_after_letter}
use Rattle.just_lexer.specs.Line.{next}
use Rattle.just_lexer.specs.State.{State, Lexeme, Opening, start_state, opening_token}
use Rattle.just_lexer.specs.declared.fault.FaultKind.{FaultKind}
use Rattle.just_lexer.specs.declared.inside.Delimiter.TheVariants.{Brace, Bracket, Paren}
use Rattle.just_lexer.specs.declared.inside.Inside.{Inside}
use Rattle.just_lexer.specs.declared.inside.Inside.TheVariants as insides
use Rattle.just_lexer.specs.declared.kind.TokenKind.{TokenKind}
use Rattle.just_lexer.specs.declared.kind.TokenKind.TheVariants as kinds
use Rattle.just_lexer.specs.declared.step.Step.{Step}
use Rattle.just_lexer.specs.declared.step.Step.TheVariants as steps

-- ---- places

-- the place after a byte
abbrev pub place_past : ℕ → Place → Place
place_past byte p = record {
  column = if byte == 10 then 0 else p.column + 1;
  line = if byte == 10 then p.line + 1 else p.line;
  offset = p.offset + 1;
  path = p.path;
}

-- the place after a text
abbrev pub place_after : Place → Text → Place
place_after p [] = p
place_after p (byte ∷ rest) = place_after (place_past byte p) rest

-- ---- the state after a token

-- what a token opens
abbrev pub opened : TokenKind → Token → Option Inside
opened kinds.BraceL token = Some (insides.Delimiter Brace token.line)
opened kinds.BracketL token = Some (insides.Delimiter Bracket token.line)
opened kinds.ParenL token = Some (insides.Delimiter Paren token.line)
opened kinds.InterpolationStart token = Some insides.Interpolation
opened kinds.FormatStringStart token = Some (insides.FormatString (mark_after_letter token.lexeme))
opened _ token = None

-- a token closes the innermost of what is open
abbrev pub closes : TokenKind → Bool
closes kinds.BraceR = true
closes kinds.BracketR = true
closes kinds.ParenR = true
closes kinds.InterpolationEnd = true
closes kinds.FormatStringEnd = true
closes _ = false

abbrev pub with_opened : Option Inside → Token → List Opening → List Opening
with_opened None token openings = openings
with_opened (Some inside) token openings = record { inside = inside; token = token } ∷ openings

-- what is open after a token
abbrev pub openings_after : TokenKind → Token → List Opening → List Opening
openings_after kind token openings =
    if closes kind then drop 1 openings else with_opened (opened kind token) token openings

-- the indentation after a token
abbrev pub indentation_after : TokenKind → Text → Text → Text
indentation_after kinds.Indent lexeme indentation = lexeme
indentation_after kinds.Dedent lexeme indentation = []
indentation_after _ lexeme indentation = indentation

-- whether a line has begun after a token
abbrev pub in_line_after : TokenKind → Bool → Bool
in_line_after kinds.Eol in_line = false
in_line_after kinds.Dedent in_line = false
in_line_after kinds.ByteOrderMark in_line = in_line
in_line_after _ in_line = true

-- Whether a body may follow after a token. A colon counts outside of delimiters. White space and line ends change
-- nothing; any other token at the start of a line begins a line without a colon.
abbrev pub has_colon_after : TokenKind → Bool → Bool → Bool → Bool
has_colon_after kinds.Colon is_outside in_line has_colon = is_outside || has_colon
has_colon_after kinds.Eol is_outside in_line has_colon = has_colon
has_colon_after kinds.Whitespace is_outside in_line has_colon = has_colon
has_colon_after _ is_outside in_line has_colon = in_line && has_colon

-- the state after a token
abbrev pub state_after : TokenKind → Text → State → State
state_after kind lexeme s = record {
  place = place_after s.place lexeme;
  openings = openings_after kind (token_at s.place lexeme) s.openings;
  indentation = indentation_after kind lexeme s.indentation;
  in_line = in_line_after kind s.in_line;
  has_colon = has_colon_after kind (length s.openings == 0) s.in_line s.has_colon;
}

-- ---- the tokens

-- the token of a text at the place of a state
abbrev pub lexeme_at : State → TokenKind → Text → Lexeme
lexeme_at s kind text = record { kind = kind; token = token_at s.place text }

-- how lexing ends: at the end of the text, or with a fault at a token
pub data Ending : Type 0 where
  Whole : Ending
  Faulty : FaultKind → Token → Ending

-- a step is a fault, with which lexing ends
abbrev pub IsFault : Step → State → Text → Ending → Type 0
IsFault (steps.Fault fault count) s text ending = ending ≡ Faulty fault (token_at s.place (take count text))
IsFault (steps.OpenFault fault) s text ending = ending ≡ Faulty fault (opening_token s s.openings)
IsFault _ s text ending = ⊥

-- A step is this token. What follows it, from the state after it on, is as said; an end is followed by nothing.
abbrev pub IsToken : Step → State → Text → Lexeme → (State → Text → Type 0) → Type 0 → Type 0
IsToken (steps.Token kind count) s text lexeme Follows Nothing =
    (lexeme ≡ lexeme_at s kind (take count text)) × Follows (state_after kind (take count text) s) (drop count text)
IsToken steps.End s text lexeme Follows Nothing = (lexeme ≡ lexeme_at s kinds.Eof []) × Nothing
IsToken _ s text lexeme Follows Nothing = ⊥

-- from a state on, a text has these tokens, and lexing ends so
abbrev pub Lexes : State → Text → List Lexeme → Ending → Type 0
Lexes s text [] ending = IsFault (next s text) s text ending
Lexes s text (lexeme ∷ lexemes) ending =
    IsToken (next s text) s text lexeme (λ later rest. Lexes later rest lexemes ending)
    ((lexemes ≡ []) × (ending ≡ Whole))

-- the text of a file has these tokens, and lexing ends so
abbrev pub IsLexed : Text → Text → List Lexeme → Ending → Type 0
IsLexed path source lexemes ending = Lexes (start_state path) source lexemes ending
