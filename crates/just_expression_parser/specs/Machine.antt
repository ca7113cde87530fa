-- How expressions are read. Forms that are read in part wait on a stack: each has a frame, which waits for an
-- expression.
-- At a token, what is read next takes the token or refuses it, or else an expression is complete, and the innermost
-- frame
-- decides. So a refused token is the first that no expression continues.
use Rattle.std.specs.Prelude.{ℕ, ◌&&◌, nat_le, nat_lt, bytes_eq, codes, List, [], ◌∷◌, ◌++◌, Option, Some, None}
use Rattle.std.specs.Prelude.{if◌then◌else◌}
use Rattle.just_syntax.specs.Plain as plain
use Rattle.just_syntax.specs.Plain.{Expr, Exprs, Literal, Pieces, Text, Token}
use Rattle.just_lexer.specs.State.{Lexeme}
use Rattle.just_lexer.specs.declared.kind.TokenKind.{TokenKind}
use Rattle.just_lexer.specs.declared.kind.TokenKind.TheVariants as kinds
use Rattle.just_expression_parser.specs.Literal.{Style, backtick_command, end_of_format, format_style, is_format}
use Rattle.just_expression_parser.specs.Literal.{middle_of_format, start_of_format, string_literal, whole_format}
use Rattle.just_expression_parser.specs.Operator.{level, operation, operator_of}
use Rattle.just_expression_parser.specs.Tokens.{Tokens, is_kind, is_word}
use Rattle.just_expression_parser.specs.declared.operator.Operator.{Operator}
use Rattle.just_expression_parser.specs.declared.parse_error.Fault.{Fault}
use Rattle.just_expression_parser.specs.declared.parse_error.Fault.TheVariants.{Expected, ExpectedExpression}
use Rattle.just_expression_parser.specs.declared.parse_error.Fault.TheVariants.{InvalidEscape}

-- ---- forms that are read in part

-- what has elements: a call of a name, or a list, by its bracket
pub data Form : Type 0 where
  Call : Token → Form
  ListOf : Token → Form

-- a form that waits for an expression
pub data MachineFrame : Type 0 where
  -- `assert(` waits for its condition
  Assertion : Token → MachineFrame
  -- `if` waits for its condition
  Condition : MachineFrame
  -- `if condition {` waits for its branch
  Consequence : Expr → MachineFrame
  -- `if condition { consequence } else` waits for another conditional
  ElseIf : Expr → Expr → MachineFrame
  -- elements wait for the next one
  Element : Form → List Expr → MachineFrame
  -- `(` waits for its contents
  Group : MachineFrame
  -- a format string waits for an interpolated expression
  Interpolation : Literal → List (Expr × Literal) → Style → MachineFrame
  -- `assert(condition,` waits for its message
  Message : Expr → Token → MachineFrame
  -- `!` waits for its operand
  Not : MachineFrame
  -- an operand waits for operators of at least the first level and below the second
  Operators : ℕ → ℕ → MachineFrame
  -- `if condition { consequence } else {` waits for the other branch
  Otherwise : Expr → Expr → MachineFrame
  -- `/` waits for its right side
  Root : Token → MachineFrame
  -- an operand and an operator wait for the right side
  Side : Expr → Operator → Token → MachineFrame

-- what is read next
pub data Next : Type 0 where
  -- after `else`, the other branch
  Branch : Expr → Expr → Next
  -- nothing: the expression is complete
  Done : Expr → Next
  -- an element, or the end of the elements
  Elements : Form → List Expr → Next
  -- an expression of at least this level
  Expression : ℕ → Next
  -- after a name, the arguments of a call, if it is one
  Named : Token → Next
  -- after a branch, the other branch, if there is one
  Else : Expr → Expr → Next
  Value : Next

-- ---- what is made

-- expressions in a row
abbrev pub expression_row : List Expr → Exprs
expression_row [] = plain.Nil
expression_row (e ∷ es) = plain.Cons e (expression_row es)

-- the expressions of a row
abbrev pub expression_list : Exprs → List Expr
expression_list plain.Nil = []
expression_list (plain.Cons e es) = e ∷ expression_list es

-- interpolations, each with the text after it
abbrev pub format_pieces : List (Expr × Literal) → Pieces
format_pieces [] = plain.NoPiece
format_pieces (p ∷ ps) = plain.Piece p.0 p.1 (format_pieces ps)

abbrev pub with_elements : Form → List Expr → Expr
with_elements (Call name) es = plain.Call name (expression_row es)
with_elements (ListOf token) es = plain.ListOf (expression_row es) token

-- the kind of the token after the last element
abbrev pub closing_kind : Form → TokenKind
closing_kind (Call name) = kinds.ParenR
closing_kind (ListOf token) = kinds.BracketR

-- ---- what happens at a token

pub data Action : Type 0 where
  -- the token is taken; this is read next, and these frames wait for it, the innermost first
  Takes : Next → List MachineFrame → Action
  -- the token stays, and this expression is complete
  Passes : Expr → Action
  Refuses : Fault → Action

-- a token of this kind is taken, another one refused
abbrev pub expects : TokenKind → Lexeme → Next → List MachineFrame → Action
expects kind t next frames = if is_kind kind t then Takes next frames else Refuses (Expected kind)

-- the frame waits outside of those that wait
abbrev pub within : MachineFrame → Action → Action
within frame (Takes next frames) = Takes next (frames ++ frame ∷ [])
within frame (Passes e) = Passes e
within frame (Refuses fault) = Refuses fault

-- the literal of a token, if its escapes are sound
abbrev pub with_literal : Option Literal → (Literal → Action) → Action
with_literal None next = Refuses InvalidEscape
with_literal (Some literal) next = next literal

unfoldable pub at_string : Text → Action
at_string lexeme =
    if is_format lexeme then with_literal (whole_format lexeme)
    (λ l. Takes (Done (plain.FormatString l plain.NoPiece)) [])
    else with_literal (string_literal lexeme) (λ l. Takes (Done (plain.StringLiteral l)) [])

-- a value begins at a token
unfoldable pub begins_value : Lexeme → Action
begins_value t =
    let token = t.token in
    if is_kind kinds.Backtick t then Takes (Done (plain.Backtick (backtick_command token.lexeme) token)) [] else
    if is_kind kinds.Bang t then Takes Value (Not ∷ []) else
    if is_kind kinds.BracketL t then Takes (Elements (ListOf token) []) [] else
    if is_kind kinds.FormatStringStart t then with_literal (start_of_format token.lexeme)
    (λ start. Takes (Expression 0) (Interpolation start [] (format_style token.lexeme) ∷ [])) else
    if is_kind kinds.Identifier t then
    (if bytes_eq token.lexeme (codes "if") then Refuses ExpectedExpression else Takes (Named token) []) else
    if is_kind kinds.ParenL t then Takes (Expression 0) (Group ∷ []) else
    if is_kind kinds.StringToken t then at_string token.lexeme else
    Refuses ExpectedExpression

-- An expression of at least a level begins at a token. Levels: `||` 0, `&&` 1, comparisons 2, `+`, `++` and `/` 3.
unfoldable pub begins_expression : ℕ → Lexeme → Action
begins_expression least t =
    if nat_le least 3 && is_word (codes "if") t then Takes (Expression 0) (Condition ∷ Operators least 3 ∷ []) else
    if nat_le least 3 && is_kind kinds.Slash t then
    Takes (Expression 3) (Root t.token ∷ Operators least 3 ∷ []) else
    within (Operators least 4) (begins_value t)

unfoldable pub begins_branch : Expr → Expr → Lexeme → Action
begins_branch condition consequence t =
    if is_word (codes "if") t then Takes (Expression 0) (Condition ∷ ElseIf condition consequence ∷ [])
    else expects kinds.BraceL t (Expression 0) (Otherwise condition consequence ∷ [])

unfoldable pub begins_elements : Form → List Expr → Lexeme → Action
begins_elements form es t =
    if is_kind (closing_kind form) t then Takes (Done (with_elements form es)) []
    else within (Element form es) (begins_expression 0 t)

unfoldable pub after_name : Token → Lexeme → Action
after_name name t =
    if is_kind kinds.ParenL t then
    (if bytes_eq name.lexeme (codes "assert") then Takes (Expression 0) (Assertion name ∷ [])
    else Takes (Elements (Call name) []) [])
    else Passes (plain.Variable name None)

unfoldable pub other_branch : Expr → Expr → Lexeme → Action
other_branch condition consequence t =
    if is_word (codes "else") t then Takes (Branch condition consequence) []
    else Passes (plain.ConditionalOnly condition consequence)

abbrev pub begins : Next → Lexeme → Action
begins (Branch condition consequence) t = begins_branch condition consequence t
begins (Done e) t = Passes e
begins (Elements form es) t = begins_elements form es t
begins (Expression least) t = begins_expression least t
begins (Named name) t = after_name name t
begins (Else condition consequence) t = other_branch condition consequence t
begins Value t = begins_value t

-- ---- what a frame does with its expression at a token

-- an operator of at least the first level and below the second takes the token
unfoldable pub operators : ℕ → ℕ → Expr → Lexeme → Option Operator → Action
operators least below lhs t None = Passes lhs
operators least below lhs t (Some operator) =
    if nat_le least (level operator) && nat_lt (level operator) below
    then Takes (Expression (level operator)) (Side lhs operator t.token ∷ Operators least (level operator) ∷ [])
    else Passes lhs

unfoldable pub after_condition : Token → Expr → Lexeme → Action
after_condition name condition t =
    if is_kind kinds.Comma t then Takes (Expression 0) (Message condition name ∷ [])
    else expects kinds.ParenR t (Done (plain.AssertOnly condition name)) []

unfoldable pub after_element : Form → List Expr → Lexeme → Action
after_element form es t =
    if is_kind (closing_kind form) t then Takes (Done (with_elements form es)) [] else
    if is_kind kinds.Comma t then Takes (Elements form es) [] else
    Refuses (Expected (closing_kind form))

unfoldable pub after_interpolation : Literal → List (Expr × Literal) → Style → Expr → Lexeme → Action
after_interpolation start ps style e t =
    if is_kind kinds.FormatStringContinue t then with_literal (middle_of_format style t.token.lexeme)
    (λ text. Takes (Expression 0) (Interpolation start (ps ++ (e, text) ∷ []) style ∷ [])) else
    if is_kind kinds.FormatStringEnd t then with_literal (end_of_format style t.token.lexeme)
    (λ text. Takes (Done (plain.FormatString start (format_pieces (ps ++ (e, text) ∷ [])))) []) else
    Refuses (Expected kinds.FormatStringEnd)

abbrev pub takes_it : MachineFrame → Expr → Lexeme → Action
takes_it (Assertion name) e t = after_condition name e t
takes_it Condition e t = expects kinds.BraceL t (Expression 0) (Consequence e ∷ [])
takes_it (Consequence condition) e t = expects kinds.BraceR t (Else condition e) []
takes_it (ElseIf condition consequence) e t = Passes (plain.Conditional condition consequence e)
takes_it (Element form es) e t = after_element form (es ++ e ∷ []) t
takes_it Group e t = expects kinds.ParenR t (Done (plain.Group e)) []
takes_it (Interpolation start ps style) e t = after_interpolation start ps style e t
takes_it (Message condition name) e t = expects kinds.ParenR t (Done (plain.Assert condition e name)) []
takes_it Not e t = Passes (plain.Not e)
takes_it (Operators least below) e t = operators least below e t (operator_of t.kind)
takes_it (Otherwise condition consequence) e t =
    expects kinds.BraceR t (Done (plain.Conditional condition consequence e)) []
takes_it (Root token) e t = Passes (plain.JoinOnly token e)
takes_it (Side lhs operator token) e t = Passes (operation lhs operator token e)

-- ---- at the end of the tokens

abbrev pub ends : Next → Action
ends (Branch condition consequence) = Refuses (Expected kinds.BraceL)
ends (Done e) = Passes e
ends (Elements form es) = Refuses ExpectedExpression
ends (Expression least) = Refuses ExpectedExpression
ends (Named name) = Passes (plain.Variable name None)
ends (Else condition consequence) = Passes (plain.ConditionalOnly condition consequence)
ends Value = Refuses ExpectedExpression

abbrev pub ends_with : MachineFrame → Expr → Action
ends_with (Assertion name) e = Refuses (Expected kinds.ParenR)
ends_with Condition e = Refuses (Expected kinds.BraceL)
ends_with (Consequence condition) e = Refuses (Expected kinds.BraceR)
ends_with (ElseIf condition consequence) e = Passes (plain.Conditional condition consequence e)
ends_with (Element form es) e = Refuses (Expected (closing_kind form))
ends_with Group e = Refuses (Expected kinds.ParenR)
ends_with (Interpolation start ps style) e = Refuses (Expected kinds.FormatStringEnd)
ends_with (Message condition name) e = Refuses (Expected kinds.ParenR)
ends_with Not e = Passes (plain.Not e)
ends_with (Operators least below) e = Passes e
ends_with (Otherwise condition consequence) e = Refuses (Expected kinds.BraceR)
ends_with (Root token) e = Passes (plain.JoinOnly token e)
ends_with (Side lhs operator token) e = Passes (operation lhs operator token e)

-- ---- the tokens one after another

-- how reading ends: with an expression, before these tokens; or with the first of these tokens refused, or the end
pub data Result : Type 0 where
  Read : Expr → Tokens → Result
  Refused : Fault → Tokens → Result

-- an action, given what follows a token that is taken, and what follows a complete expression
abbrev pub acts : Action → Tokens → (Next → List MachineFrame → Result) → (Expr → Result) → Result
acts (Takes next frames) ts taken passed = taken next frames
acts (Passes e) ts taken passed = passed e
acts (Refuses fault) ts taken passed = Refused fault ts

-- a complete expression at the end
abbrev pub completes_at_end : List MachineFrame → Expr → Result
completes_at_end [] e = Read e []
completes_at_end (frame ∷ frames) e = acts (ends_with frame e) [] (λ next later. Read e []) (completes_at_end frames)

-- a complete expression at a token; what follows it is known
abbrev pub completes : Lexeme → Tokens → (Next → List MachineFrame → Result) → List MachineFrame → Expr → Result
completes t ts follows [] e = Read e (t ∷ ts)
completes t ts follows (frame ∷ frames) e = acts (takes_it frame e t) (t ∷ ts)
    (λ next later. follows next (later ++ frames)) (completes t ts follows frames)

-- reading goes on with this, and with these frames
unfoldable pub parse : Tokens → Next → List MachineFrame → Result
parse [] next frames = acts (ends next) [] (λ next later. Refused ExpectedExpression []) (completes_at_end frames)
parse (t ∷ ts) next frames = acts (begins next t) (t ∷ ts)
    (λ next later. parse ts next (later ++ frames)) (completes t ts (parse ts) frames)
