-- Where what the grammar derives begins and ends: levels, first tokens, and tokens that go on with no expression.
use Rattle.std.specs.Prelude.{ℕ, ◌≡◌, ◌≢◌, ◌<◌, ◌≤◌, false, true, bytes_eq, codes, List, [], ◌∷◌, Option, Some, None}
use Rattle.std.proofs.Common.{◌∙◌, ap, arith, inl, refl, sym}
use Rattle.just_syntax.specs.Plain as plain
use Rattle.just_syntax.specs.Plain.{Expr, Text, Token}
use Rattle.just_lexer.specs.State.{Lexeme}
use Rattle.just_lexer.specs.declared.kind.TokenKind.{TokenKind}
use Rattle.just_lexer.specs.declared.kind.TokenKind.TheVariants as kinds
use Rattle.just_syntax.specs.declared.conditional_operator.ConditionalOperator.TheVariants as conditional
use Rattle.just_expression_parser.proofs.Codes.{is_not_of_kind}
use Rattle.just_expression_parser.proofs.Actions.{no_token, not_here, not_operator}
use Rattle.just_expression_parser.specs.Grammar as grammar
use Rattle.just_expression_parser.specs.Grammar.{reads}
use Rattle.just_expression_parser.specs.Machine as machine
use Rattle.just_expression_parser.specs.Machine.{Done, Form, MachineFrame, Operators, closing_kind, parse}
use Rattle.just_expression_parser.specs.Operator.{comparison_kind, level, operator_of}
use Rattle.just_expression_parser.specs.Parsed.{IsNotAt, is_at_word}
use Rattle.just_expression_parser.specs.Tokens.{Mark, One, Tokens, Word, code, is_kind, is_word, lexeme}
use Rattle.just_expression_parser.specs.declared.operator.Operator.{Operator}
use Rattle.just_expression_parser.specs.declared.operator.Operator.TheVariants as operators

-- ---- levels

-- the level of an expression's form
abbrev pub top : Expr → ℕ
top (plain.Or l r) = 0
top (plain.And l r) = 1
top (plain.Comparison l o r t) = 2
top (plain.Concatenation l t r) = 3
top (plain.ListConcatenation l t r) = 3
top (plain.Join l t r) = 3
top (plain.JoinOnly t r) = 3
top (plain.Conditional c a b) = 3
top (plain.ConditionalOnly c a) = 3
top _ = 4

-- operators of at least this level would go on with the expression
abbrev pub open_at : Expr → ℕ
open_at (plain.Or l r) = 0
open_at (plain.And l r) = 1
open_at (plain.Comparison l o r t) = 2
open_at (plain.Concatenation l t r) = 3
open_at (plain.ListConcatenation l t r) = 3
open_at (plain.Join l t r) = 3
open_at (plain.JoinOnly t r) = 3
open_at _ = 4

abbrev IsBelow : ℕ → Option Operator → Type 0
IsBelow n None = Unit {0}
IsBelow n (Some o) = level o < n

-- neither `else` nor `(` nor an operator of at least this level comes next
abbrev pub IsEnd : ℕ → Tokens → Type 0
IsEnd n [] = Unit {0}
IsEnd n (t ∷ ts) = (is_word (codes "else") t ≡ false) × (t.kind ≡ kinds.ParenL → ⊥) × IsBelow n (operator_of t.kind)

below_more : (m n : ℕ) (o : Option Operator) → m ≤ n → IsBelow m o → IsBelow n o
below_more m n None most below = tt
below_more m n (Some o) most below = omega (arith, most, below)

pub end_more : (m n : ℕ) (ts : Tokens) → m ≤ n → IsEnd m ts → IsEnd n ts
end_more m n [] most end = tt
end_more m n (t ∷ ts) most (no_else, no_paren, below) = (no_else, no_paren, below_more m n (operator_of t.kind) most below)

-- ---- what waits for operators

stays_at : (least below : ℕ) (t : Lexeme) (ts : Tokens) (e : Expr) (frames : List MachineFrame) (o : Option Operator) → operator_of t.kind ≡ o → IsBelow least o
    → parse (t ∷ ts) (Done e) (Operators least below ∷ frames) ≡ parse (t ∷ ts) (Done e) frames
stays_at least below t ts e frames None is low = not_operator least below (t ∷ ts) t e frames refl is
stays_at least below t ts e frames (Some o) is low = not_here least below (t ∷ ts) t o e frames refl is (inl low)

pub no_more : (least below : ℕ) (ts : Tokens) (e : Expr) (frames : List MachineFrame) → IsEnd least ts
    → parse ts (Done e) (Operators least below ∷ frames) ≡ parse ts (Done e) frames
no_more least below [] e frames end = no_token least below [] e frames refl
no_more least below (t ∷ ts) e frames (no_else, no_paren, low) = stays_at least below t ts e frames (operator_of t.kind) refl low

-- ---- first tokens

-- a token that begins a value
abbrev pub BeginsValue : Tokens → Type 0
BeginsValue ts = (is_at_word (codes "if") ts ≡ false) × IsNotAt kinds.Slash ts

-- a token that ends no elements
abbrev Opens : Tokens → Type 0
Opens ts = (form : Form) → IsNotAt (closing_kind form) ts

pub no_word : (word : Text) (kind : TokenKind) (t : Token) → (kind ≡ kinds.Identifier → ⊥) → is_word word (lexeme kind t) ≡ false
unfolding is_word
no_word word kind t other = rw (is_not_of_kind kinds.Identifier (lexeme kind t) other) refl

word_is : (word : Text) (t : Token) → is_word word (lexeme kinds.Identifier t) ≡ bytes_eq t.lexeme word
unfolding is_word is_kind code
word_is word t = refl

-- a word is there
pub word_here : (word : Text) (ts rest : Tokens) → Word word ts rest → is_at_word word ts ≡ true
word_here word ts rest (t, is, taken) = rw taken (word_is word t ∙ is)

begins : (kind : TokenKind) (t : Token) (ts rest : Tokens) → (kind ≡ kinds.Identifier → ⊥) → (kind ≡ kinds.Slash → ⊥) → One kind t ts rest → BeginsValue ts
begins kind t ts rest no_name no_slash taken = rw taken ((no_word (codes "if") kind t no_name, no_slash))

pub opens : (kind : TokenKind) (t : Token) (ts rest : Tokens) → (kind ≡ kinds.ParenR → ⊥) → (kind ≡ kinds.BracketR → ⊥) → One kind t ts rest → Opens ts
opens kind t ts rest no_paren no_bracket taken (machine.Call name) = rw taken no_paren
opens kind t ts rest no_paren no_bracket taken (machine.ListOf token) = rw taken no_bracket

-- kinds with different numbers
apart : (a b : TokenKind) → code a ≢ code b → a ≡ b → ⊥
apart a b other same = other (ap code same)

name_is_no_slash : kinds.Identifier ≡ kinds.Slash → ⊥
unfolding code
name_is_no_slash same = absurd (omega (arith, ap code same))

name_begins : (t : Token) (ts rest : Tokens) → grammar.Name t ts rest → BeginsValue ts
name_begins t ts rest (no_if, taken) = rw taken ((word_is (codes "if") t ∙ no_if, name_is_no_slash))

name_opens : (t : Token) (ts rest : Tokens) → One kinds.Identifier t ts rest → Opens ts
unfolding code
name_opens t ts rest taken = opens kinds.Identifier t ts rest (λ same. absurd (omega (arith, ap code same))) (λ same. absurd (omega (arith, ap code same)))
    taken

module _ (t : Token) (ts rest : Tokens) where
  backtick_begins : One kinds.Backtick t ts rest → BeginsValue ts
  unfolding code
  backtick_begins taken = begins kinds.Backtick t ts rest (λ same. absurd (omega (arith, ap code same))) (λ same. absurd (omega (arith, ap code same))) taken

  backtick_opens : One kinds.Backtick t ts rest → Opens ts
  unfolding code
  backtick_opens taken = opens kinds.Backtick t ts rest (λ same. absurd (omega (arith, ap code same))) (λ same. absurd (omega (arith, ap code same))) taken

  bang_begins : One kinds.Bang t ts rest → BeginsValue ts
  unfolding code
  bang_begins taken = begins kinds.Bang t ts rest (λ same. absurd (omega (arith, ap code same))) (λ same. absurd (omega (arith, ap code same))) taken

  bang_opens : One kinds.Bang t ts rest → Opens ts
  unfolding code
  bang_opens taken = opens kinds.Bang t ts rest (λ same. absurd (omega (arith, ap code same))) (λ same. absurd (omega (arith, ap code same))) taken

  paren_begins : One kinds.ParenL t ts rest → BeginsValue ts
  unfolding code
  paren_begins taken = begins kinds.ParenL t ts rest (λ same. absurd (omega (arith, ap code same))) (λ same. absurd (omega (arith, ap code same))) taken

  paren_opens : One kinds.ParenL t ts rest → Opens ts
  unfolding code
  paren_opens taken = opens kinds.ParenL t ts rest (λ same. absurd (omega (arith, ap code same))) (λ same. absurd (omega (arith, ap code same))) taken

  bracket_begins : One kinds.BracketL t ts rest → BeginsValue ts
  unfolding code
  bracket_begins taken = begins kinds.BracketL t ts rest (λ same. absurd (omega (arith, ap code same))) (λ same. absurd (omega (arith, ap code same))) taken

  bracket_opens : One kinds.BracketL t ts rest → Opens ts
  unfolding code
  bracket_opens taken = opens kinds.BracketL t ts rest (λ same. absurd (omega (arith, ap code same))) (λ same. absurd (omega (arith, ap code same))) taken

  string_begins : One kinds.StringToken t ts rest → BeginsValue ts
  unfolding code
  string_begins taken = begins kinds.StringToken t ts rest (λ same. absurd (omega (arith, ap code same))) (λ same. absurd (omega (arith, ap code same))) taken

  string_opens : One kinds.StringToken t ts rest → Opens ts
  unfolding code
  string_opens taken = opens kinds.StringToken t ts rest (λ same. absurd (omega (arith, ap code same))) (λ same. absurd (omega (arith, ap code same))) taken

  format_begins : One kinds.FormatStringStart t ts rest → BeginsValue ts
  unfolding code
  format_begins taken = begins kinds.FormatStringStart t ts rest (λ same. absurd (omega (arith, ap code same))) (λ same. absurd (omega (arith, ap code same)))
      taken

  format_opens : One kinds.FormatStringStart t ts rest → Opens ts
  unfolding code
  format_opens taken = opens kinds.FormatStringStart t ts rest (λ same. absurd (omega (arith, ap code same))) (λ same. absurd (omega (arith, ap code same)))
      taken

  slash_opens : One kinds.Slash t ts rest → Opens ts
  unfolding code
  slash_opens taken = opens kinds.Slash t ts rest (λ same. absurd (omega (arith, ap code same))) (λ same. absurd (omega (arith, ap code same))) taken

-- an expression ends no elements
pub expression_opens : (e : Expr) (n : ℕ) (ts rest : Tokens) → reads e n ts rest → Opens ts
expression_opens (plain.Or l r) n ts rest (low, (m, first, later)) = expression_opens l 1 ts m first
expression_opens (plain.And l r) n ts rest (low, (m, first, later)) = expression_opens l 2 ts m first
expression_opens (plain.Comparison l o r t) n ts rest (low, (m, first, later)) = expression_opens l 3 ts m first
expression_opens (plain.Concatenation l t r) n ts rest (low, (m, first, later)) = expression_opens l 4 ts m first
expression_opens (plain.ListConcatenation l t r) n ts rest (low, (m, first, later)) = expression_opens l 4 ts m first
expression_opens (plain.Join l t r) n ts rest (low, (m, first, later)) = expression_opens l 4 ts m first
expression_opens (plain.JoinOnly t r) n ts rest (low, (m, taken, later)) = slash_opens t ts m taken
expression_opens (plain.Conditional c a b) n ts rest (low, (m, (m0, (t, is, taken), later), otherwise)) = name_opens t ts m0 taken
expression_opens (plain.ConditionalOnly c a) n ts rest (low, (m0, (t, is, taken), later)) = name_opens t ts m0 taken
expression_opens (plain.Not e) n ts rest (m, (t, taken), later) = bang_opens t ts m taken
expression_opens (plain.Group e) n ts rest (m, (t, taken), later) = paren_opens t ts m taken
expression_opens (plain.ListOf es t) n ts rest (m, taken, later) = bracket_opens t ts m taken
expression_opens (plain.Call t es) n ts rest (m, (no_assert, (no_if, taken)), later) = name_opens t ts m taken
expression_opens (plain.AssertOnly e t) n ts rest (m, (is_assert, (no_if, taken)), later) = name_opens t ts m taken
expression_opens (plain.Assert e message t) n ts rest (m, (is_assert, (no_if, taken)), later) = name_opens t ts m taken
expression_opens (plain.Backtick text t) n ts rest (is, taken) = backtick_opens t ts rest taken
expression_opens (plain.StringLiteral literal) n ts rest (t, no_format, is, taken) = string_opens t ts rest taken
expression_opens (plain.FormatString start plain.NoPiece) n ts rest (t, format, is, taken) = string_opens t ts rest taken
expression_opens (plain.FormatString start (plain.Piece e text ps)) n ts rest (t, is, (m, taken, later)) = format_opens t ts m taken
expression_opens (plain.Variable t number) n ts rest (none, (no_if, taken)) = name_opens t ts rest taken

pub value_begins : (e : Expr) (ts rest : Tokens) → reads e 4 ts rest → BeginsValue ts
value_begins (plain.Or l r) ts rest (low, later) = absurd (omega (arith, low))
value_begins (plain.And l r) ts rest (low, later) = absurd (omega (arith, low))
value_begins (plain.Comparison l o r t) ts rest (low, later) = absurd (omega (arith, low))
value_begins (plain.Concatenation l t r) ts rest (low, later) = absurd (omega (arith, low))
value_begins (plain.ListConcatenation l t r) ts rest (low, later) = absurd (omega (arith, low))
value_begins (plain.Join l t r) ts rest (low, later) = absurd (omega (arith, low))
value_begins (plain.JoinOnly t r) ts rest (low, later) = absurd (omega (arith, low))
value_begins (plain.Conditional c a b) ts rest (low, later) = absurd (omega (arith, low))
value_begins (plain.ConditionalOnly c a) ts rest (low, later) = absurd (omega (arith, low))
value_begins (plain.Not e) ts rest (m, (t, taken), later) = bang_begins t ts m taken
value_begins (plain.Group e) ts rest (m, (t, taken), later) = paren_begins t ts m taken
value_begins (plain.ListOf es t) ts rest (m, taken, later) = bracket_begins t ts m taken
value_begins (plain.Call t es) ts rest (m, (no_assert, name), later) = name_begins t ts m name
value_begins (plain.AssertOnly e t) ts rest (m, (is_assert, name), later) = name_begins t ts m name
value_begins (plain.Assert e message t) ts rest (m, (is_assert, name), later) = name_begins t ts m name
value_begins (plain.Backtick text t) ts rest (is, taken) = backtick_begins t ts rest taken
value_begins (plain.StringLiteral literal) ts rest (t, no_format, is, taken) = string_begins t ts rest taken
value_begins (plain.FormatString start plain.NoPiece) ts rest (t, format, is, taken) = string_begins t ts rest taken
value_begins (plain.FormatString start (plain.Piece e text ps)) ts rest (t, is, (m, taken, later)) = format_begins t ts m taken
value_begins (plain.Variable t number) ts rest (none, name) = name_begins t ts rest name

-- ---- levels of what is derived

pub levels : (e : Expr) (n : ℕ) (ts rest : Tokens) → n ≤ 4 → reads e n ts rest → (n ≤ top e) × (n ≤ open_at e)
levels (plain.Or l r) n ts rest most (low, later) = (low, low)
levels (plain.And l r) n ts rest most (low, later) = (low, low)
levels (plain.Comparison l o r t) n ts rest most (low, later) = (low, low)
levels (plain.Concatenation l t r) n ts rest most (low, later) = (low, low)
levels (plain.ListConcatenation l t r) n ts rest most (low, later) = (low, low)
levels (plain.Join l t r) n ts rest most (low, later) = (low, low)
levels (plain.JoinOnly t r) n ts rest most (low, later) = (low, low)
levels (plain.Conditional c a b) n ts rest most (low, later) = (low, most)
levels (plain.ConditionalOnly c a) n ts rest most (low, later) = (low, most)
levels (plain.Not e) n ts rest most later = (most, most)
levels (plain.Group e) n ts rest most later = (most, most)
levels (plain.ListOf es t) n ts rest most later = (most, most)
levels (plain.Call t es) n ts rest most later = (most, most)
levels (plain.AssertOnly e t) n ts rest most later = (most, most)
levels (plain.Assert e message t) n ts rest most later = (most, most)
levels (plain.Backtick text t) n ts rest most later = (most, most)
levels (plain.StringLiteral literal) n ts rest most later = (most, most)
levels (plain.FormatString start ps) n ts rest most later = (most, most)
levels (plain.Variable t number) n ts rest most later = (most, most)

pub comparison_of : (o : _) → operator_of (comparison_kind o) ≡ Some (operators.Comparison o)
comparison_of conditional.Equality = refl
comparison_of conditional.Inequality = refl
comparison_of conditional.RegexMatch = refl
comparison_of conditional.RegexMismatch = refl

-- a kind that goes on with no expression
abbrev pub IsClosing : TokenKind → Type 0
IsClosing kind = (kind ≡ kinds.Identifier → ⊥) × (kind ≡ kinds.ParenL → ⊥) × (operator_of kind ≡ None)

pub brace_closes : IsClosing kinds.BraceL
unfolding code
brace_closes = (λ same. absurd (omega (arith, ap code same)), λ same. absurd (omega (arith, ap code same)), refl)

pub end_brace_closes : IsClosing kinds.BraceR
unfolding code
end_brace_closes = (λ same. absurd (omega (arith, ap code same)), λ same. absurd (omega (arith, ap code same)), refl)

pub comma_closes : IsClosing kinds.Comma
unfolding code
comma_closes = (λ same. absurd (omega (arith, ap code same)), λ same. absurd (omega (arith, ap code same)), refl)

pub paren_closes : IsClosing kinds.ParenR
unfolding code
paren_closes = (λ same. absurd (omega (arith, ap code same)), λ same. absurd (omega (arith, ap code same)), refl)

bracket_closes : IsClosing kinds.BracketR
unfolding code
bracket_closes = (λ same. absurd (omega (arith, ap code same)), λ same. absurd (omega (arith, ap code same)), refl)

pub continue_closes : IsClosing kinds.FormatStringContinue
unfolding code
continue_closes = (λ same. absurd (omega (arith, ap code same)), λ same. absurd (omega (arith, ap code same)), refl)

pub end_closes : IsClosing kinds.FormatStringEnd
unfolding code
end_closes = (λ same. absurd (omega (arith, ap code same)), λ same. absurd (omega (arith, ap code same)), refl)

pub form_closes : (form : Form) → IsClosing (closing_kind form)
form_closes (machine.Call name) = paren_closes
form_closes (machine.ListOf token) = bracket_closes

-- a token of such a kind ends an expression
pub ends_at : (kind : TokenKind) (n : ℕ) (ts rest : Tokens) → IsClosing kind → Mark kind ts rest → IsEnd n ts
ends_at kind n ts rest (no_name, no_paren, none) (t, taken) = rw taken ((no_word (codes "else") kind t no_name, no_paren, rw none tt))

no_operator_is : (o : Operator) (kind other : TokenKind) → operator_of kind ≡ Some o → operator_of other ≡ None → kind ≡ other → ⊥
no_operator_is o kind other is none same = let both : None ≡ Some o = sym none ∙ (rw same at is) in absurd (cc)

-- an operator of a lower level does, too
pub ends_before : (o : Operator) (kind : TokenKind) (n : ℕ) (t : Token) (ts rest : Tokens) → operator_of kind ≡ Some o → level o < n
    → One kind t ts rest → IsEnd n ts
ends_before o kind n t ts rest is low taken = rw taken ((
  no_word (codes "else") kind t (no_operator_is o kind kinds.Identifier is refl),
  no_operator_is o kind kinds.ParenL is refl,
  rw is low,
))
