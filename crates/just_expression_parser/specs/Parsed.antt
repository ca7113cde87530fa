-- What the program's values stand for.
use Rattle.std.specs.Prelude.{ℕ, ◌+◌, ◌*◌, length, ◌≡◌, ◌⊎◌, ◌≤◌, ◌<◌, Bool, true, false, List, [], ◌∷◌, ◌++◌, drop}
use Rattle.std.specs.Prelude.{map, reverse, Option, Some, None}
use Rattle.std.specs.Prelude.{IfErr, IfOk, Result, option_map}
use Rattle.just_syntax.specs.Plain.{Expr, FormatString, Literal, NoPiece, StringLiteral, Text, Token}
use Rattle.just_syntax.specs.View.{name_view, literal_view, piece_view, token_view, view}
use Rattle.just_lexer.specs.State.{Lexeme}
use Rattle.just_lexer.specs.View.{lexeme_view}
use Rattle.just_lexer.specs.declared.kind.TokenKind.{TokenKind}
use Rattle.just_lexer.specs.declared.kind.TokenKind.TheVariants as kinds
use Rattle.just_expression_parser.specs.Grammar.{reads}
use Rattle.just_expression_parser.specs.Laws.{IsEnded}
use Rattle.just_expression_parser.specs.Literal.{Style, end_of_format, is_format, string_literal, whole_format}
use Rattle.just_expression_parser.specs.Machine as machine
use Rattle.just_expression_parser.specs.Machine.{Form, MachineFrame, Next, parse}
use Rattle.just_expression_parser.specs.Operator.{level, operator_of}
use Rattle.just_expression_parser.specs.Tokens.{One, Tokens, is_word, lexeme}
use Rattle.just_expression_parser.specs.declared.operator.Operator.{Operator}
use Rattle.just_expression_parser.specs.declared.cursor.Cursor.{Cursor}
use Rattle.just_expression_parser.specs.declared.frame.Elements as written_elements
use Rattle.just_expression_parser.specs.declared.frame.Elements.TheVariants as forms
use Rattle.just_expression_parser.specs.declared.frame.Frame as written_frame
use Rattle.just_expression_parser.specs.declared.frame.Frame.TheVariants as frames
use Rattle.just_expression_parser.specs.declared.frame.State as written_state
use Rattle.just_expression_parser.specs.declared.frame.State.TheVariants as states
use Rattle.just_expression_parser.specs.declared.machine.Machine.{Machine}
use Rattle.just_expression_parser.specs.declared.parse_error.Fault.{Fault}
use Rattle.just_expression_parser.specs.declared.parse_error.Fault.TheVariants.{Expected, InvalidEscape}
use Rattle.just_expression_parser.specs.declared.parse_error.ParseError.{ParseError}
use Rattle.just_expression_parser.specs.declared.parse_error.ParseError.TheVariants.{Unexpected, OutOfMemory}
use Rattle.just_expression_parser.specs.declared.style.Style as written_style

-- the tokens that are left
abbrev pub tokens : Cursor → Tokens
tokens cursor = map lexeme_view (drop cursor.taken cursor.tokens.now)

-- the style of a format string
abbrev pub style_view : written_style.Style → Style
style_view style = record { mark = style.mark.now; escapes = style.escapes }

-- the first token; `None` at the end
abbrev pub first_of : Tokens → Option Token
first_of [] = None
first_of (t ∷ ts) = Some t.token

-- the next token, if one is left
abbrev pub next_lexeme : Tokens → Option Lexeme
next_lexeme [] = None
next_lexeme (t ∷ ts) = Some t

-- the next token is not of this kind
abbrev pub IsNotAt : TokenKind → Tokens → Type 0
IsNotAt kind [] = Unit {0}
IsNotAt kind (t ∷ ts) = t.kind ≡ kind → ⊥

-- the next token is this word
abbrev pub is_at_word : Text → Tokens → Bool
is_at_word word [] = false
is_at_word word (t ∷ ts) = is_word word t

-- the next token is refused for this fault
abbrev pub IsRefusalAt : Fault → Tokens → ParseError → Type 0
IsRefusalAt fault ts (Unexpected found token) = (found ≡ fault) × (option_map token_view token ≡ first_of ts)
IsRefusalAt fault ts OutOfMemory = ⊥

-- this token is refused for this fault
abbrev pub IsRefusalOf : Fault → Token → ParseError → Type 0
IsRefusalOf fault t (Unexpected found token) = (found ≡ fault) × (option_map token_view token ≡ Some t)
IsRefusalOf fault t OutOfMemory = ⊥

-- this token is refused, as it has no literal; or memory ran out
abbrev pub IsNoLiteral : Option Literal → Token → ParseError → Type 0
IsNoLiteral literal t (Unexpected found token) =
    (literal ≡ None) × (found ≡ InvalidEscape) × (option_map token_view token ≡ Some t)
IsNoLiteral literal t OutOfMemory = Unit {0}

-- these tokens begin with the last text of a format string, which is this literal
abbrev pub IsLastText : Style → Tokens → Literal → Tokens → Type 0
IsLastText style ts l rest =
    (token : Token) × One kinds.FormatStringEnd token ts rest × (end_of_format style token.lexeme ≡ Some l)

-- they do not: the next token is refused
abbrev pub IsNoLastText : Style → Tokens → ParseError → Type 0
IsNoLastText style ts refusal =
    (IsRefusalAt (Expected kinds.FormatStringEnd) ts refusal × IsNotAt kinds.FormatStringEnd ts)
    ⊎ ((token : Token) × (rest : Tokens) × One kinds.FormatStringEnd token ts rest
    × IsNoLiteral (end_of_format style token.lexeme) token refusal)

-- the expression that the token of a string is
abbrev pub IsString : Text → Expr → Type 0
IsString lexeme (StringLiteral l) = (is_format lexeme ≡ false) × (string_literal lexeme ≡ Some l)
IsString lexeme (FormatString l NoPiece) = (is_format lexeme ≡ true) × (whole_format lexeme ≡ Some l)
IsString lexeme _ = ⊥

-- ---- the machine

abbrev pub form_view : written_elements.Elements → Form
form_view (forms.Call name) = machine.Call (name_view name)
form_view (forms.List token) = machine.ListOf (token_view token)

abbrev pub machine_frame_view : written_frame.Frame → MachineFrame
machine_frame_view (frames.Assertion name) = machine.Assertion (name_view name)
machine_frame_view frames.Condition = machine.Condition
machine_frame_view (frames.Consequence condition) = machine.Consequence (view condition)
machine_frame_view (frames.ElseIf condition consequence) = machine.ElseIf (view condition) (view consequence)
machine_frame_view (frames.Elements form elements) = machine.Element (form_view form) (map view elements.items)
machine_frame_view frames.Group = machine.Group
machine_frame_view (frames.Interpolation start pieces style) =
    machine.Interpolation (literal_view start) (map piece_view pieces.items) (style_view style)
machine_frame_view (frames.Message condition name) = machine.Message (view condition) (name_view name)
machine_frame_view frames.Not = machine.Not
machine_frame_view (frames.Operators least below) = machine.Operators least below
machine_frame_view (frames.Otherwise condition consequence) = machine.Otherwise (view condition) (view consequence)
machine_frame_view (frames.Root operator) = machine.Root (token_view operator)
machine_frame_view (frames.Side lhs operator token) = machine.Side (view lhs) operator (token_view token)

abbrev pub state_view : written_state.State → Next
state_view (states.Branch condition consequence) = machine.Branch (view condition) (view consequence)
state_view (states.Done expression) = machine.Done (view expression)
state_view (states.Elements form elements) = machine.Elements (form_view form) (map view elements.items)
state_view (states.Expression level) = machine.Expression level
state_view (states.Named name) = machine.Named (name_view name)
state_view (states.Otherwise condition consequence) = machine.Else (view condition) (view consequence)
state_view states.Value = machine.Value

-- the tokens that a machine has left
abbrev pub left : Machine → Tokens
left m = tokens m.cursor

-- its frames, the innermost first
abbrev pub waiting : Machine → List MachineFrame
waiting m = reverse (map machine_frame_view m.frames.items)

-- ---- how a machine goes on

-- the result of reading, and a bound of the steps to there
pub record Course : Type 0 where
  pub result : machine.Result
  pub bound : ℕ

-- no step but one that takes a token leaves more to do
abbrev pub weight : Next → ℕ
weight (machine.Branch condition consequence) = 1
weight (machine.Done e) = 0
weight (machine.Elements form es) = 5
weight (machine.Expression least) = 3
weight (machine.Named name) = 1
weight (machine.Else condition consequence) = 1
weight machine.Value = 1

abbrev pub step_bound : Tokens → Next → List MachineFrame → ℕ
step_bound ts next frames = weight next + length frames + 8 * length ts

-- the course from these tokens, this next and these frames
abbrev pub course : Tokens → Next → List MachineFrame → Course
course ts next frames = record { result = parse ts next frames; bound = step_bound ts next frames }

-- the course from a machine with this next, and with these frames inside of those that wait
abbrev pub goes : Machine → Next → List MachineFrame → Course
goes m next inner = course (left m) next (inner ++ waiting m)

-- the same with this token before those that are left
abbrev pub goes_at : Lexeme → Machine → Next → Course
goes_at t m next = course (t ∷ left m) next (waiting m)

-- the course, before a step that only adds these frames
abbrev pub waits : Machine → Next → List MachineFrame → Course
waits m next inner = record {
  result = parse (left m) next (inner ++ waiting m);
  bound = 1 + step_bound (left m) next (inner ++ waiting m);
}

-- something is left to read
abbrev pub IsPending : Next → Type 0
IsPending (machine.Done e) = ⊥
IsPending _ = Unit {0}

-- the machine takes a token, which is an operator of at least the first level and below the second
abbrev pub TakesOperator : ℕ → ℕ → Operator → Token → Machine → Machine → Type 0
TakesOperator least below operator token old new =
    (kind : TokenKind) × (operator_of kind ≡ Some operator) × (least ≤ level operator) × (level operator < below)
    × (left old ≡ lexeme kind token ∷ left new) × (waiting new ≡ waiting old)

-- no such operator comes next, and the machine is as it was
abbrev pub IsNoOperator : ℕ → ℕ → Machine → Machine → Type 0
IsNoOperator least below old new =
    (left new ≡ left old) × (waiting new ≡ waiting old)
    × ((e : Expr) (frames : List MachineFrame)
    → parse (left old) (machine.Done e) (machine.Operators least below ∷ frames)
    ≡ parse (left old) (machine.Done e) frames)

-- reading is refused so; of `OutOfMemory` nothing is said
abbrev pub IsRefused : machine.Result → ParseError → Type 0
IsRefused result (Unexpected fault token) =
    (at : Tokens) × (result ≡ machine.Refused fault at) × (option_map token_view token ≡ first_of at)
IsRefused result OutOfMemory = Unit {0}

-- the machine is to read this next: the result is the same, and the bound is less
abbrev pub GoesOn : Course → Result written_state.State ParseError → Machine → Type 0
GoesOn whole result m = IfOk result (λ next. ((goes m (state_view next) []).result ≡ whole.result)
    × ((goes m (state_view next) []).bound < whole.bound)) × IfErr result (IsRefused whole.result)

-- no expression is derived from these tokens, up to a token that goes on with none
abbrev pub BeginsNone : Tokens → Type 0
BeginsNone ts = (e : Expr) (rest : Tokens) → reads e 0 ts rest → IsEnded rest → ⊥

-- these tokens have the same first one, or both are none
abbrev pub StartsWith : Tokens → Tokens → Type 0
StartsWith [] us = us ≡ []
StartsWith (t ∷ ts) us = (more : Tokens) × (us ≡ t ∷ more)

-- reading is refused so, and the tokens up to the refused one are no expression, whatever comes after it; of
-- `OutOfMemory` nothing is said
abbrev pub IsNoExpression : Tokens → ParseError → Type 0
IsNoExpression ts (Unexpected fault token) =
    (front : Tokens) × (at : Tokens) × (ts ≡ front ++ at) × (option_map token_view token ≡ first_of at)
    × ((us : Tokens) → StartsWith at us → BeginsNone (front ++ us))
    × (parse ts (machine.Expression 0) [] ≡ machine.Refused fault at)
IsNoExpression ts OutOfMemory = Unit {0}
