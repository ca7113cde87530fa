-- What is read next, at the tokens.
use Rattle.std.specs.Prelude.{ℕ, ◌≡◌, ◌<◌, ◌≤◌, ◌⊎◌, Bool, true, false, bytes_eq, codes, List, [], ◌∷◌, ◌++◌, drop, Option}
use Rattle.std.specs.Prelude.{Some, None, nat_le, ◌&&◌, if◌then◌else◌}
use Rattle.std.proofs.Common.{◌∙◌, ap, refl, sym, inl, inr}
use Rattle.std.proofs.lemmas.Bool.{le-leb, lt-leb}
use Rattle.std.proofs.lemmas.List.{append_assoc}
use Rattle.just_syntax.specs.Plain as plain
use Rattle.just_syntax.specs.Plain.{Expr, Literal, Token}
use Rattle.just_lexer.specs.State.{Lexeme}
use Rattle.just_lexer.specs.declared.kind.TokenKind.TheVariants as kinds
use Rattle.just_expression_parser.proofs.Codes.{is_not_of_kind, is_of_kind}
use Rattle.just_expression_parser.proofs.Runs.{passes, passes_end, refuses, refuses_end, takes}
use Rattle.just_expression_parser.specs.Literal.{format_style, is_format, start_of_format, string_literal, whole_format}
use Rattle.just_expression_parser.specs.Machine as machine
use Rattle.just_expression_parser.specs.Machine.{Action, Branch, Done, Element, Elements, Else, Form, MachineFrame, Named, Next, Operators}
use Rattle.just_expression_parser.specs.Machine.{Passes, Refused, Refuses, Result, Takes, acts, after_condition, after_element}
use Rattle.just_expression_parser.specs.Machine.{after_name, at_string, begins, begins_branch, begins_elements, begins_expression, closing_kind, ends, expects}
use Rattle.just_expression_parser.specs.Machine.{begins_value, other_branch, parse, with_elements, with_literal, within}
use Rattle.just_expression_parser.specs.Parsed.{IsNotAt, IsRefusalAt, IsRefusalOf, IsRefused, is_at_word}
use Rattle.just_expression_parser.specs.Tokens.{Mark, One, Tokens, code, is_kind, is_word, lexeme}
use Rattle.just_expression_parser.specs.declared.parse_error.Fault.TheVariants.{Expected, ExpectedExpression}
use Rattle.just_expression_parser.specs.declared.parse_error.ParseError.{ParseError}
use Rattle.just_expression_parser.specs.declared.parse_error.ParseError.TheVariants.{OutOfMemory, Unexpected}

-- ---- an expression never passes

abbrev pub IsStart : Action → Type 0
IsStart (Takes later inner) = Unit {0}
IsStart (Passes e) = ⊥
IsStart (Refuses fault) = Unit {0}

either : (b : Bool) (x y : Action) → IsStart x → IsStart y → IsStart (if b then x else y)
either true x y here there = here
either false x y here there = there

with_literal_starts : (o : Option Literal) (f : Literal → Action) → ((l : Literal) → IsStart (f l))
    → IsStart (with_literal o f)
with_literal_starts None f starts = tt
with_literal_starts (Some l) f starts = starts l

string_starts : (lexeme : _) → IsStart (at_string lexeme)
unfolding at_string
string_starts lexeme = either (is_format lexeme) _ _
    (with_literal_starts (whole_format lexeme) _ (λ l. tt)) (with_literal_starts (string_literal lexeme) _ (λ l. tt))

value_starts : (t : Lexeme) → IsStart (begins_value t)
unfolding begins_value
value_starts t =
    either (is_kind kinds.Backtick t) _ _ tt (either (is_kind kinds.Bang t) _ _ tt
    (either (is_kind kinds.BracketL t) _ _ tt (either (is_kind kinds.FormatStringStart t) _ _
    (with_literal_starts (start_of_format t.token.lexeme)
    (λ start. Takes (machine.Expression 0) (machine.Interpolation start [] (format_style t.token.lexeme) ∷ [])) (λ l. tt {0}))
    (either (is_kind kinds.Identifier t) _ _
    (either (bytes_eq t.token.lexeme (codes "if")) _ _ tt tt) (either (is_kind kinds.ParenL t) _ _ tt
    (either (is_kind kinds.StringToken t) _ _ (string_starts t.token.lexeme) tt))))))

within_starts : (frame : MachineFrame) (a : Action) → IsStart a → IsStart (within frame a)
within_starts frame (Takes later inner) starts = tt
within_starts frame (Passes e) starts = starts
within_starts frame (Refuses fault) starts = tt

pub expression_starts : (least : ℕ) (t : Lexeme) → IsStart (begins_expression least t)
unfolding begins_expression
expression_starts least t =
    either (nat_le least 3 && is_word (codes "if") t) _ _ tt (either (nat_le least 3 && is_kind kinds.Slash t) _ _ tt
    (within_starts (Operators least 4) (begins_value t) (value_starts t)))

-- what starts within a frame, starts with the frame around it
acts_within : (t : Lexeme) (ts : Tokens) (frame : MachineFrame) (frames : List MachineFrame) (first second : Next) (a : Action)
    → IsStart a → begins first t ≡ within frame a → begins second t ≡ a
    → parse (t ∷ ts) first frames ≡ parse (t ∷ ts) second (frame ∷ frames)
acts_within t ts frame frames first second (Takes later inner) starts outer inside =
    takes t ts first frames later (inner ++ frame ∷ []) outer
    ∙ ap (parse ts later) (append_assoc inner (frame ∷ []) frames)
    ∙ sym (takes t ts second (frame ∷ frames) later inner inside)
acts_within t ts frame frames first second (Passes e) starts outer inside = absurd starts
acts_within t ts frame frames first second (Refuses fault) starts outer inside =
    refuses t ts first frames fault outer ∙ sym (refuses t ts second (frame ∷ frames) fault inside)

-- ---- expressions

-- `if`
pub if_here : (least : ℕ) (ts : Tokens) (frames : List MachineFrame) → least ≤ 3 → is_at_word (codes "if") ts ≡ true
    → parse ts (machine.Expression least) frames
    ≡ parse (drop 1 ts) (machine.Expression 0) (machine.Condition ∷ Operators least 3 ∷ frames)
unfolding begins_expression
if_here least [] frames low is = absurd (cc)
if_here least (t ∷ ts) frames low is = takes t ts (machine.Expression least) frames (machine.Expression 0)
    (machine.Condition ∷ Operators least 3 ∷ []) (rw (le-leb least 3 low, is) refl)

slash : (least : ℕ) (token : Token) → least ≤ 3 → begins_expression least (lexeme kinds.Slash token)
    ≡ Takes (machine.Expression 3) (machine.Root token ∷ Operators least 3 ∷ [])
unfolding begins_expression is_word is_kind code
slash least token low = rw (le-leb least 3 low) refl

-- `/`
pub root_here : (least : ℕ) (ts rest : Tokens) (token : Token) (frames : List MachineFrame) → least ≤ 3
    → One kinds.Slash token ts rest → parse ts (machine.Expression least) frames
    ≡ parse rest (machine.Expression 3) (machine.Root token ∷ Operators least 3 ∷ frames)
root_here least ts rest token frames low taken = ap (λ us. parse us (machine.Expression least) frames) taken
    ∙ takes (lexeme kinds.Slash token) rest (machine.Expression least) frames (machine.Expression 3)
    (machine.Root token ∷ Operators least 3 ∷ []) (slash least token low)

tight : (least : ℕ) (t : Lexeme) → 3 < least → begins_expression least t ≡ within (Operators least 4) (begins_value t)
unfolding begins_expression
tight least t high = rw (lt-leb least 3 high) refl

either_way : (b word slash : Bool) (x y z : Action) → word ≡ false → slash ≡ false → (if b && word then x else if b && slash then y else z) ≡ z
either_way true word slash x y z no_word no_slash = rw (no_word, no_slash) refl
either_way false word slash x y z no_word no_slash = refl

loose : (least : ℕ) (t : Lexeme) → is_word (codes "if") t ≡ false → is_kind kinds.Slash t ≡ false
    → begins_expression least t ≡ within (Operators least 4) (begins_value t)
unfolding begins_expression
loose least t no_if no_slash = either_way (nat_le least 3) (is_word (codes "if") t) (is_kind kinds.Slash t) _ _ _ no_if no_slash

-- a value
pub value_here : (least : ℕ) (ts : Tokens) (frames : List MachineFrame)
    → (3 < least) ⊎ ((is_at_word (codes "if") ts ≡ false) × IsNotAt kinds.Slash ts)
    → parse ts (machine.Expression least) frames ≡ parse ts machine.Value (Operators least 4 ∷ frames)
value_here least [] frames so = refuses_end (machine.Expression least) frames ExpectedExpression refl
    ∙ sym (refuses_end machine.Value (Operators least 4 ∷ frames) ExpectedExpression refl)
value_here least (t ∷ ts) frames (inl high) = acts_within t ts (Operators least 4) frames (machine.Expression least)
    machine.Value (begins_value t) (value_starts t) (tight least t high) refl
value_here least (t ∷ ts) frames (inr (no_if, no_slash)) = acts_within t ts (Operators least 4) frames
    (machine.Expression least) machine.Value (begins_value t) (value_starts t)
    (loose least t no_if (is_not_of_kind kinds.Slash t no_slash)) refl

-- ---- elements

end_of : (form : Form) (es : List Expr) (token : Token) → begins_elements form es (lexeme (closing_kind form) token)
    ≡ Takes (Done (with_elements form es)) []
unfolding begins_elements
end_of form es token = rw (is_of_kind (closing_kind form) (lexeme (closing_kind form) token) refl) refl

-- the end of the elements
pub elements_end : (form : Form) (es : List Expr) (ts rest : Tokens) (token : Token) (frames : List MachineFrame)
    → One (closing_kind form) token ts rest → parse ts (Elements form es) frames ≡ parse rest (Done (with_elements form es)) frames
elements_end form es ts rest token frames taken = ap (λ us. parse us (Elements form es) frames) taken
    ∙ takes (lexeme (closing_kind form) token) rest (Elements form es) frames (Done (with_elements form es)) []
    (end_of form es token)

another : (form : Form) (es : List Expr) (t : Lexeme) → (t.kind ≡ closing_kind form → ⊥)
    → begins_elements form es t ≡ within (Element form es) (begins_expression 0 t)
unfolding begins_elements
another form es t other = rw (is_not_of_kind (closing_kind form) t other) refl

-- one more element
pub element_here : (form : Form) (es : List Expr) (ts : Tokens) (frames : List MachineFrame) → IsNotAt (closing_kind form) ts
    → parse ts (Elements form es) frames ≡ parse ts (machine.Expression 0) (Element form es ∷ frames)
element_here form es [] frames other = refuses_end (Elements form es) frames ExpectedExpression refl
    ∙ sym (refuses_end (machine.Expression 0) (Element form es ∷ frames) ExpectedExpression refl)
element_here form es (t ∷ ts) frames other = acts_within t ts (Element form es) frames (Elements form es)
    (machine.Expression 0) (begins_expression 0 t) (expression_starts 0 t) (another form es t other) refl

-- ---- names

call_of : (name token : Token) → bytes_eq name.lexeme (codes "assert") ≡ false
    → after_name name (lexeme kinds.ParenL token) ≡ Takes (Elements (machine.Call name) []) []
unfolding after_name is_kind code
call_of name token e = rw e refl

assertion_of : (name token : Token) → bytes_eq name.lexeme (codes "assert") ≡ true
    → after_name name (lexeme kinds.ParenL token) ≡ Takes (machine.Expression 0) (machine.Assertion name ∷ [])
unfolding after_name is_kind code
assertion_of name token e = rw e refl

-- a call
pub call_here : (name token : Token) (ts rest : Tokens) (frames : List MachineFrame)
    → bytes_eq name.lexeme (codes "assert") ≡ false → One kinds.ParenL token ts rest
    → parse ts (Named name) frames ≡ parse rest (Elements (machine.Call name) []) frames
call_here name token ts rest frames e taken = ap (λ us. parse us (Named name) frames) taken
    ∙ takes (lexeme kinds.ParenL token) rest (Named name) frames (Elements (machine.Call name) []) [] (call_of name token e)

-- an assertion
pub assertion_here : (name token : Token) (ts rest : Tokens) (frames : List MachineFrame)
    → bytes_eq name.lexeme (codes "assert") ≡ true → One kinds.ParenL token ts rest
    → parse ts (Named name) frames ≡ parse rest (machine.Expression 0) (machine.Assertion name ∷ frames)
assertion_here name token ts rest frames e taken = ap (λ us. parse us (Named name) frames) taken
    ∙ takes (lexeme kinds.ParenL token) rest (Named name) frames (machine.Expression 0) (machine.Assertion name ∷ [])
    (assertion_of name token e)

alone : (name : Token) (t : Lexeme) → (t.kind ≡ kinds.ParenL → ⊥) → after_name name t ≡ Passes (plain.Variable name None)
unfolding after_name
alone name t other = rw (is_not_of_kind kinds.ParenL t other) refl

-- a variable
pub variable_here : (name : Token) (ts : Tokens) (frames : List MachineFrame) → IsNotAt kinds.ParenL ts
    → parse ts (Named name) frames ≡ parse ts (Done (plain.Variable name None)) frames
variable_here name [] frames other = passes_end (Named name) frames (plain.Variable name None) refl
variable_here name (t ∷ ts) frames other = passes t ts (Named name) frames (plain.Variable name None) (alone name t other)

-- ---- the other branch

else_at : (c a : Expr) (t : Lexeme) → is_word (codes "else") t ≡ true → other_branch c a t ≡ Takes (Branch c a) []
unfolding other_branch
else_at c a t e = rw e refl

no_else_at : (c a : Expr) (t : Lexeme) → is_word (codes "else") t ≡ false
    → other_branch c a t ≡ Passes (plain.ConditionalOnly c a)
unfolding other_branch
no_else_at c a t e = rw e refl

pub else_here : (c a : Expr) (ts : Tokens) (frames : List MachineFrame) → is_at_word (codes "else") ts ≡ true
    → parse ts (Else c a) frames ≡ parse (drop 1 ts) (Branch c a) frames
else_here c a [] frames e = absurd (cc)
else_here c a (t ∷ ts) frames e = takes t ts (Else c a) frames (Branch c a) [] (else_at c a t e)

pub no_else_here : (c a : Expr) (ts : Tokens) (frames : List MachineFrame) → is_at_word (codes "else") ts ≡ false
    → parse ts (Else c a) frames ≡ parse ts (Done (plain.ConditionalOnly c a)) frames
no_else_here c a [] frames e = passes_end (Else c a) frames (plain.ConditionalOnly c a) refl
no_else_here c a (t ∷ ts) frames e = passes t ts (Else c a) frames (plain.ConditionalOnly c a) (no_else_at c a t e)

-- ---- after `else`

if_after_else : (c a : Expr) (t : Lexeme) → is_word (codes "if") t ≡ true
    → begins_branch c a t ≡ Takes (machine.Expression 0) (machine.Condition ∷ machine.ElseIf c a ∷ [])
unfolding begins_branch
if_after_else c a t e = rw e refl

pub brace_after_else : (c a : Expr) (t : Lexeme) → is_word (codes "if") t ≡ false
    → begins_branch c a t ≡ expects kinds.BraceL t (machine.Expression 0) (machine.Otherwise c a ∷ [])
unfolding begins_branch
brace_after_else c a t e = rw e refl

-- another conditional
pub chained_here : (c a : Expr) (ts : Tokens) (frames : List MachineFrame) → is_at_word (codes "if") ts ≡ true
    → parse ts (Branch c a) frames ≡ parse (drop 1 ts) (machine.Expression 0) (machine.Condition ∷ machine.ElseIf c a ∷ frames)
chained_here c a [] frames e = absurd (cc)
chained_here c a (t ∷ ts) frames e =
    takes t ts (Branch c a) frames (machine.Expression 0) (machine.Condition ∷ machine.ElseIf c a ∷ []) (if_after_else c a t e)

-- a branch in braces
pub braced_here : (c a : Expr) (ts rest : Tokens) (frames : List MachineFrame) → is_at_word (codes "if") ts ≡ false → Mark kinds.BraceL ts rest
    → parse ts (Branch c a) frames ≡ parse rest (machine.Expression 0) (machine.Otherwise c a ∷ frames)
braced_here c a ts rest frames e (token, taken) =
    let t = lexeme kinds.BraceL token in
    let no_if : is_word (codes "if") t ≡ false = rw taken at e in
    ap (λ us. parse us (Branch c a) frames) taken
    ∙ takes t rest (Branch c a) frames (machine.Expression 0) (machine.Otherwise c a ∷ [])
    (brace_after_else c a t no_if ∙ rw (is_of_kind kinds.BraceL t refl) refl)

pub unbraced_here : (c a : Expr) (ts : Tokens) (frames : List MachineFrame) (refusal : ParseError) → is_at_word (codes "if") ts ≡ false
    → IsRefusalAt (Expected kinds.BraceL) ts refusal → IsNotAt kinds.BraceL ts → IsRefused (parse ts (Branch c a) frames) refusal
unbraced_here c a [] frames (Unexpected found token) e (fault, first) other =
    ([], refuses_end (Branch c a) frames (Expected kinds.BraceL) refl ∙ ap (λ f. Refused f []) (sym fault), first)
unbraced_here c a (t ∷ ts) frames (Unexpected found token) e (fault, first) other = (
  t ∷ ts,
  refuses t ts (Branch c a) frames (Expected kinds.BraceL) (brace_after_else c a t e ∙ rw (is_not_of_kind kinds.BraceL t other) refl)
      ∙ ap (λ f. Refused f (t ∷ ts)) (sym fault),
  first,
)
unbraced_here c a ts frames OutOfMemory e none other = absurd none

-- ---- values

-- a token that begins no value is refused
pub value_refused : (t : Lexeme) (ts : Tokens) (frames : List MachineFrame) (refusal : ParseError) → begins_value t ≡ Refuses ExpectedExpression
    → IsRefusalOf ExpectedExpression t.token refusal → IsRefused (parse (t ∷ ts) machine.Value frames) refusal
value_refused t ts frames (Unexpected found token) is (fault, first) =
    (t ∷ ts, refuses t ts machine.Value frames ExpectedExpression is ∙ ap (λ f. Refused f (t ∷ ts)) (sym fault), first)
value_refused t ts frames OutOfMemory is none = absurd none

pub no_value : (ts : Tokens) (frames : List MachineFrame) (refusal : ParseError) → ts ≡ [] → IsRefusalAt ExpectedExpression ts refusal
    → IsRefused (parse ts machine.Value frames) refusal
no_value [] frames (Unexpected found token) none (fault, first) =
    ([], refuses_end machine.Value frames ExpectedExpression refl ∙ ap (λ f. Refused f []) (sym fault), first)
no_value (t ∷ ts) frames (Unexpected found token) none at = absurd (cc)
no_value ts frames OutOfMemory none at = absurd at

pub if_is_none : (token : Token) → bytes_eq token.lexeme (codes "if") ≡ true → begins_value (lexeme kinds.Identifier token) ≡ Refuses ExpectedExpression
unfolding begins_value is_kind code
if_is_none token e = rw e refl

name_is : (token : Token) → bytes_eq token.lexeme (codes "if") ≡ false → begins_value (lexeme kinds.Identifier token) ≡ Takes (Named token) []
unfolding begins_value is_kind code
name_is token e = rw e refl

pub if_refused : (token : Token) (ts : Tokens) (frames : List MachineFrame) (refusal : ParseError) → bytes_eq token.lexeme (codes "if") ≡ true
    → IsRefusalOf ExpectedExpression token refusal → IsRefused (parse (lexeme kinds.Identifier token ∷ ts) machine.Value frames) refusal
if_refused token ts frames refusal e at = value_refused (lexeme kinds.Identifier token) ts frames refusal (if_is_none token e) at

pub name_here : (token : Token) (ts : Tokens) (frames : List MachineFrame) → bytes_eq token.lexeme (codes "if") ≡ false
    → parse (lexeme kinds.Identifier token ∷ ts) machine.Value frames ≡ parse ts (Named token) frames
name_here token ts frames e = takes (lexeme kinds.Identifier token) ts machine.Value frames (Named token) [] (name_is token e)
