-- What the actions come to.
use Rattle.std.specs.Prelude.{ℕ, ◌≡◌, ◌<◌, ◌≤◌, ◌⊎◌, false, List, [], ◌∷◌, ◌++◌, Option, Some, None}
use Rattle.std.specs.Prelude.{nat_le, nat_lt, ◌&&◌}
use Rattle.std.proofs.Common.{◌∙◌, ap, arith, refl, sym, inl, inr}
use Rattle.std.proofs.Math.Bool.{and-false}
use Rattle.std.proofs.lemmas.Bool.{le-leb, le-ltb, lt-leb, lt-ltb}
use Rattle.just_syntax.specs.Plain as plain
use Rattle.just_syntax.specs.Plain.{Expr, Token}
use Rattle.just_lexer.specs.State.{Lexeme}
use Rattle.just_lexer.specs.declared.kind.TokenKind.{TokenKind}
use Rattle.just_lexer.specs.declared.kind.TokenKind.TheVariants as kinds
use Rattle.just_expression_parser.proofs.Codes.{is_not_of_kind, is_of_kind}
use Rattle.just_expression_parser.proofs.Runs.{frame_completes, frame_passes, frame_passes_end, frame_refuses, frame_refuses_end, frame_takes}
use Rattle.just_expression_parser.specs.Machine as machine
use Rattle.just_expression_parser.specs.Machine.{Action, Done, MachineFrame, Next, Operators, Passes, Refused, Refuses, Takes, ends_with}
use Rattle.just_expression_parser.specs.Machine.{Form, after_condition, after_element, closing_kind, expects, operators, parse, takes_it, with_elements}
use Rattle.just_expression_parser.specs.Operator.{level, operator_of}
use Rattle.just_expression_parser.specs.Parsed.{IsNotAt, IsRefusalAt, IsRefused, next_lexeme}
use Rattle.just_expression_parser.specs.Tokens.{Mark, One, Tokens, code, is_kind, lexeme}
use Rattle.just_expression_parser.specs.declared.operator.Operator.{Operator}
use Rattle.just_expression_parser.specs.declared.operator.Operator.TheVariants as of_two
use Rattle.just_expression_parser.specs.declared.parse_error.Fault.TheVariants.{Expected}
use Rattle.just_expression_parser.specs.declared.parse_error.ParseError.{ParseError}
use Rattle.just_expression_parser.specs.declared.parse_error.ParseError.TheVariants.{OutOfMemory, Unexpected}

-- ---- a token of one kind

expected : (kind : TokenKind) (token : Token) (later : Next) (inner : List MachineFrame)
    → expects kind (lexeme kind token) later inner ≡ Takes later inner
expected kind token later inner = rw (is_of_kind kind (lexeme kind token) refl) refl

pub unexpected : (kind : TokenKind) (t : Lexeme) (later : Next) (inner : List MachineFrame) → (t.kind ≡ kind → ⊥)
    → expects kind t later inner ≡ Refuses (Expected kind)
unexpected kind t later inner other = rw (is_not_of_kind kind t other) refl

-- a frame that waits for a token of one kind, which comes
pub expected_after : (ts rest : Tokens) (frame : MachineFrame) (frames : List MachineFrame) (e : Expr) (kind : TokenKind) (later : Next)
    (inner : List MachineFrame) → ((t : Lexeme) → takes_it frame e t ≡ expects kind t later inner) → Mark kind ts rest
    → parse ts (Done e) (frame ∷ frames) ≡ parse rest later (inner ++ frames)
expected_after ts rest frame frames e kind later inner is (token, taken) =
    ap (λ us. parse us (Done e) (frame ∷ frames)) taken
    ∙ frame_takes (lexeme kind token) rest frame frames e later inner
    (is (lexeme kind token) ∙ expected kind token later inner)

-- such a frame, if another token comes, or none
pub refused_after : (ts : Tokens) (frame : MachineFrame) (frames : List MachineFrame) (e : Expr) (kind : TokenKind) (later : Next)
    (inner : List MachineFrame) (refusal : ParseError) → ((t : Lexeme) → takes_it frame e t ≡ expects kind t later inner)
    → ends_with frame e ≡ Refuses (Expected kind) → IsRefusalAt (Expected kind) ts refusal → IsNotAt kind ts
    → IsRefused (parse ts (Done e) (frame ∷ frames)) refusal
refused_after [] frame frames e kind later inner (Unexpected found token) is end (fault, first) other =
    ([], frame_refuses_end frame frames e (Expected kind) end ∙ ap (λ f. Refused f []) (sym fault), first)
refused_after (t ∷ ts) frame frames e kind later inner (Unexpected found token) is end (fault, first) other = (
  t ∷ ts,
  frame_refuses t ts frame frames e (Expected kind) (is t ∙ unexpected kind t later inner other)
      ∙ ap (λ f. Refused f (t ∷ ts)) (sym fault),
  first,
)
refused_after ts frame frames e kind later inner OutOfMemory is end none other = absurd none

-- ---- operators

-- the operator that a token is, if there is one
abbrev operator_in : Option Lexeme → Option Operator
operator_in None = None
operator_in (Some t) = operator_of t.kind

no_operator : (least below : ℕ) (e : Expr) (t : Lexeme) (o : Option Operator) → o ≡ None
    → operators least below e t o ≡ Passes e
unfolding operators
no_operator least below e t o none = ap (operators least below e t) none

not_between : (a b c : ℕ) → (b < a) ⊎ (c ≤ b) → (nat_le a b && nat_lt b c) ≡ false
not_between a b c (inl low) = ap (λ x. x && nat_lt b c) (lt-leb a b low)
not_between a b c (inr high) = ap (λ x. nat_le a b && x) (le-ltb b c high) ∙ and-false (nat_le a b)

outside : (least below : ℕ) (e : Expr) (t : Lexeme) (o : Operator) → (level o < least) ⊎ (below ≤ level o)
    → operators least below e t (Some o) ≡ Passes e
unfolding operators
outside least below e t o apart = rw (not_between least (level o) below apart) refl

inside : (least below : ℕ) (e : Expr) (t : Lexeme) (o : Operator) → least ≤ level o → level o < below
    → operators least below e t (Some o)
    ≡ Takes (machine.Expression (level o)) (machine.Side e o t.token ∷ Operators least (level o) ∷ [])
unfolding operators
inside least below e t o low high = rw (le-leb least (level o) low, lt-ltb (level o) below high) refl

-- no operator has the level of values
passed : (e : Expr) (t : Lexeme) (o : Option Operator) → operators 4 4 e t o ≡ Passes e
unfolding operators
passed e t None = refl
passed e t (Some of_two.Or) = refl
passed e t (Some of_two.And) = refl
passed e t (Some (of_two.Comparison c)) = refl
passed e t (Some of_two.Concatenation) = refl
passed e t (Some of_two.ListConcatenation) = refl
passed e t (Some of_two.Join) = refl

pub value_completes : (ts : Tokens) (e : Expr) (frames : List MachineFrame)
    → parse ts (Done e) (Operators 4 4 ∷ frames) ≡ parse ts (Done e) frames
value_completes ts e frames = frame_completes ts (Operators 4 4) frames e e (λ t. passed e t (operator_of t.kind)) refl

pub no_token : (least below : ℕ) (ts : Tokens) (e : Expr) (frames : List MachineFrame) → None ≡ next_lexeme ts
    → parse ts (Done e) (Operators least below ∷ frames) ≡ parse ts (Done e) frames
no_token least below [] e frames none = frame_passes_end (Operators least below) frames e e refl
no_token least below (t ∷ ts) e frames none = absurd (cc)

pub not_operator : (least below : ℕ) (ts : Tokens) (t : Lexeme) (e : Expr) (frames : List MachineFrame) → Some t ≡ next_lexeme ts
    → operator_of t.kind ≡ None → parse ts (Done e) (Operators least below ∷ frames) ≡ parse ts (Done e) frames
not_operator least below [] t e frames is none = absurd (cc)
not_operator least below (u ∷ ts) t e frames is none = frame_passes u ts (Operators least below) frames e e
    (no_operator least below e u (operator_of u.kind) (ap operator_in (sym is) ∙ none))

pub not_here : (least below : ℕ) (ts : Tokens) (t : Lexeme) (o : Operator) (e : Expr) (frames : List MachineFrame)
    → Some t ≡ next_lexeme ts → operator_of t.kind ≡ Some o → (level o < least) ⊎ (below ≤ level o)
    → parse ts (Done e) (Operators least below ∷ frames) ≡ parse ts (Done e) frames
not_here least below [] t o e frames is some apart = absurd (cc)
not_here least below (u ∷ ts) t o e frames is some apart = frame_passes u ts (Operators least below) frames e e
    (ap (operators least below e u) (ap operator_in (sym is) ∙ some) ∙ outside least below e u o apart)

-- an operator between the levels is taken
pub operator_here : (least below : ℕ) (ts rest : Tokens) (kind : TokenKind) (token : Token) (o : Operator) (e : Expr)
    (frames : List MachineFrame) → operator_of kind ≡ Some o → least ≤ level o → level o < below
    → ts ≡ lexeme kind token ∷ rest
    → parse ts (Done e) (Operators least below ∷ frames)
    ≡ parse rest (machine.Expression (level o)) (machine.Side e o token ∷ Operators least (level o) ∷ frames)
operator_here least below ts rest kind token o e frames is low high taken =
    ap (λ us. parse us (Done e) (Operators least below ∷ frames)) taken
    ∙ frame_takes (lexeme kind token) rest (Operators least below) frames e (machine.Expression (level o))
    (machine.Side e o token ∷ Operators least (level o) ∷ [])
    (ap (operators least below e (lexeme kind token)) is ∙ inside least below e (lexeme kind token) o low high)

-- ---- after an element

last_of : (form : Form) (es : List Expr) (token : Token) → after_element form es (lexeme (closing_kind form) token) ≡ Takes (Done (with_elements form es)) []
unfolding after_element
last_of form es token = rw (is_of_kind (closing_kind form) (lexeme (closing_kind form) token) refl) refl

comma_of : (form : Form) (es : List Expr) (token : Token) → (kinds.Comma ≡ closing_kind form → ⊥)
    → after_element form es (lexeme kinds.Comma token) ≡ Takes (machine.Elements form es) []
unfolding after_element
comma_of form es token other =
    rw (is_not_of_kind (closing_kind form) (lexeme kinds.Comma token) other, is_of_kind kinds.Comma (lexeme kinds.Comma token) refl) refl

pub neither_of : (form : Form) (es : List Expr) (t : Lexeme) → (t.kind ≡ closing_kind form → ⊥) → (t.kind ≡ kinds.Comma → ⊥)
    → after_element form es t ≡ Refuses (Expected (closing_kind form))
unfolding after_element
neither_of form es t no_end no_comma = rw (is_not_of_kind (closing_kind form) t no_end, is_not_of_kind kinds.Comma t no_comma) refl

-- the last element
pub element_last : (form : Form) (es : List Expr) (e : Expr) (ts rest : Tokens) (token : Token) (frames : List MachineFrame)
    → One (closing_kind form) token ts rest
    → parse ts (Done e) (machine.Element form es ∷ frames) ≡ parse rest (Done (with_elements form (es ++ e ∷ []))) frames
element_last form es e ts rest token frames taken =
    ap (λ us. parse us (Done e) (machine.Element form es ∷ frames)) taken
    ∙ frame_takes (lexeme (closing_kind form) token) rest (machine.Element form es) frames e (Done (with_elements form (es ++ e ∷ []))) []
    (last_of form (es ++ e ∷ []) token)

-- a comma after an element
pub element_comma : (form : Form) (es : List Expr) (e : Expr) (ts rest : Tokens) (frames : List MachineFrame) → IsNotAt (closing_kind form) ts
    → Mark kinds.Comma ts rest
    → parse ts (Done e) (machine.Element form es ∷ frames) ≡ parse rest (machine.Elements form (es ++ e ∷ [])) frames
element_comma form es e ts rest frames other (token, taken) =
    let apart : kinds.Comma ≡ closing_kind form → ⊥ = rw taken at other in
    ap (λ us. parse us (Done e) (machine.Element form es ∷ frames)) taken
    ∙ frame_takes (lexeme kinds.Comma token) rest (machine.Element form es) frames e (machine.Elements form (es ++ e ∷ [])) []
    (comma_of form (es ++ e ∷ []) token apart)

pub element_refused : (form : Form) (es : List Expr) (e : Expr) (ts : Tokens) (frames : List MachineFrame) (refusal : ParseError)
    → IsNotAt (closing_kind form) ts
    → IsRefusalAt (Expected (closing_kind form)) ts refusal → IsNotAt kinds.Comma ts → IsRefused (parse ts (Done e) (machine.Element form es ∷ frames)) refusal
element_refused form es e [] frames (Unexpected found token) no_end (fault, first) no_comma =
    ([], frame_refuses_end (machine.Element form es) frames e (Expected (closing_kind form)) refl ∙ ap (λ f. Refused f []) (sym fault), first)
element_refused form es e (t ∷ ts) frames (Unexpected found token) no_end (fault, first) no_comma = (
  t ∷ ts,
  frame_refuses t ts (machine.Element form es) frames e (Expected (closing_kind form)) (neither_of form (es ++ e ∷ []) t no_end no_comma)
      ∙ ap (λ f. Refused f (t ∷ ts)) (sym fault),
  first,
)
element_refused form es e ts frames OutOfMemory no_end none no_comma = absurd none

-- ---- after the condition of an assertion

paren_is_no_comma : kinds.ParenR ≡ kinds.Comma → ⊥
unfolding code
paren_is_no_comma same = absurd (omega (arith, ap code same))

message_of : (name token : Token) (e : Expr) → after_condition name e (lexeme kinds.Comma token) ≡ Takes (machine.Expression 0) (machine.Message e name ∷ [])
unfolding after_condition is_kind code
message_of name token e = refl

pub no_message_of : (name : Token) (e : Expr) (t : Lexeme) → (t.kind ≡ kinds.Comma → ⊥)
    → after_condition name e t ≡ expects kinds.ParenR t (Done (plain.AssertOnly e name)) []
unfolding after_condition
no_message_of name e t other = rw (is_not_of_kind kinds.Comma t other) refl

pub message_here : (name : Token) (e : Expr) (ts rest : Tokens) (token : Token) (frames : List MachineFrame) → One kinds.Comma token ts rest
    → parse ts (Done e) (machine.Assertion name ∷ frames) ≡ parse rest (machine.Expression 0) (machine.Message e name ∷ frames)
message_here name e ts rest token frames taken =
    ap (λ us. parse us (Done e) (machine.Assertion name ∷ frames)) taken
    ∙ frame_takes (lexeme kinds.Comma token) rest (machine.Assertion name) frames e (machine.Expression 0) (machine.Message e name ∷ [])
    (message_of name token e)

pub assertion_end : (name : Token) (e : Expr) (ts rest : Tokens) (frames : List MachineFrame) → Mark kinds.ParenR ts rest
    → parse ts (Done e) (machine.Assertion name ∷ frames) ≡ parse rest (Done (plain.AssertOnly e name)) frames
assertion_end name e ts rest frames (token, taken) =
    let t = lexeme kinds.ParenR token in
    ap (λ us. parse us (Done e) (machine.Assertion name ∷ frames)) taken
    ∙ frame_takes t rest (machine.Assertion name) frames e (Done (plain.AssertOnly e name)) []
    (no_message_of name e t (λ same. paren_is_no_comma same) ∙ expected kinds.ParenR token (Done (plain.AssertOnly e name)) [])

pub assertion_refused : (name : Token) (e : Expr) (ts : Tokens) (frames : List MachineFrame) (refusal : ParseError) → IsNotAt kinds.Comma ts
    → IsRefusalAt (Expected kinds.ParenR) ts refusal → IsNotAt kinds.ParenR ts → IsRefused (parse ts (Done e) (machine.Assertion name ∷ frames)) refusal
assertion_refused name e [] frames (Unexpected found token) no_comma (fault, first) other =
    ([], frame_refuses_end (machine.Assertion name) frames e (Expected kinds.ParenR) refl ∙ ap (λ f. Refused f []) (sym fault), first)
assertion_refused name e (t ∷ ts) frames (Unexpected found token) no_comma (fault, first) other = (
  t ∷ ts,
  frame_refuses t ts (machine.Assertion name) frames e (Expected kinds.ParenR)
      (no_message_of name e t no_comma ∙ unexpected kinds.ParenR t (Done (plain.AssertOnly e name)) [] other) ∙ ap (λ f. Refused f (t ∷ ts)) (sym fault),
  first,
)
assertion_refused name e ts frames OutOfMemory no_comma none other = absurd none
