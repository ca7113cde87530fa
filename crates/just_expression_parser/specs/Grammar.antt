-- The grammar of expressions: which tokens are which expression, a rule a form.
use Rattle.std.specs.Prelude.{ℕ, ◌≡◌, ◌≤◌, ◌⊎◌, false, true, bytes_eq, codes, Option, Some, None}
use Rattle.just_syntax.specs.Plain.{Expr, And, Assert, AssertOnly, Backtick, Call, Comparison, Concatenation}
use Rattle.just_syntax.specs.Plain.{Conditional, ConditionalOnly, FormatString, Group, Join, JoinOnly, ListOf}
use Rattle.just_syntax.specs.Plain.{ListConcatenation, Not, Or, StringLiteral, Variable, Exprs, Nil, Cons, Pieces}
use Rattle.just_syntax.specs.Plain.{NoPiece, Piece, Literal, Text, Token}
use Rattle.just_lexer.specs.declared.kind.TokenKind.{TokenKind}
use Rattle.just_lexer.specs.declared.kind.TokenKind.TheVariants as kinds
use Rattle.just_expression_parser.specs.Literal.{Style, backtick_command, end_of_format, format_style, is_format}
use Rattle.just_expression_parser.specs.Literal.{middle_of_format, start_of_format, string_literal, whole_format}
use Rattle.just_expression_parser.specs.Operator.{comparison_kind}
use Rattle.just_expression_parser.specs.Tokens.{Tokens, One, Mark, Then, Word}

-- ---- tokens with a text

-- a name; `if` is none
abbrev pub Name : Token → Tokens → Tokens → Type 0
Name token ts rest = (bytes_eq token.lexeme (codes "if") ≡ false) × One kinds.Identifier token ts rest

-- a name of a call, which `assert` is not
abbrev pub CallName : Token → Tokens → Tokens → Type 0
CallName token ts rest = (bytes_eq token.lexeme (codes "assert") ≡ false) × Name token ts rest

-- the word `assert`, by its token
abbrev pub AssertName : Token → Tokens → Tokens → Type 0
AssertName token ts rest = (bytes_eq token.lexeme (codes "assert") ≡ true) × Name token ts rest

-- a variable, which has no number yet
abbrev pub Named : Option ℕ → Token → Tokens → Tokens → Type 0
Named number token ts rest = (number ≡ None) × Name token ts rest

-- a command in backticks
abbrev pub Command : Text → Token → Tokens → Tokens → Type 0
Command text token ts rest = (text ≡ backtick_command token.lexeme) × One kinds.Backtick token ts rest

-- the tokens begin with `if`
abbrev pub BeginsIf : Tokens → Type 0
BeginsIf ts = (rest : Tokens) × Word (codes "if") ts rest

-- no token
abbrev pub Nothing : Tokens → Tokens → Type 0
Nothing ts rest = ts ≡ rest

-- a string
abbrev pub String : Literal → Tokens → Tokens → Type 0
String literal ts rest =
    (token : Token) × (is_format token.lexeme ≡ false) × (string_literal token.lexeme ≡ Some literal)
    × One kinds.StringToken token ts rest

-- a format string without interpolations
abbrev pub WholeFormat : Literal → Tokens → Tokens → Type 0
WholeFormat literal ts rest =
    (token : Token) × (is_format token.lexeme ≡ true) × (whole_format token.lexeme ≡ Some literal)
    × One kinds.StringToken token ts rest

-- the start of a format string, and then what follows it in its style
abbrev pub StartOfFormat : Literal → (Style → Tokens → Tokens → Type 0) → Tokens → Tokens → Type 0
StartOfFormat literal Follows ts rest =
    (token : Token) × (start_of_format token.lexeme ≡ Some literal)
    × Then (One kinds.FormatStringStart token) (Follows (format_style token.lexeme)) ts rest

-- the text after an interpolation that is not the last
abbrev pub MiddleOfFormat : Style → Literal → Tokens → Tokens → Type 0
MiddleOfFormat style literal ts rest =
    (token : Token) × (middle_of_format style token.lexeme ≡ Some literal)
    × One kinds.FormatStringContinue token ts rest

-- the text after the last one
abbrev pub EndOfFormat : Style → Literal → Tokens → Tokens → Type 0
EndOfFormat style literal ts rest =
    (token : Token) × (end_of_format style token.lexeme ≡ Some literal) × One kinds.FormatStringEnd token ts rest

-- ---- expressions

-- Operators bind the tighter the greater their level is: `||` 0, `&&` 1, comparisons 2, `+`, `++` and `/` 3. Values
-- have level 4. What stands to the left of an operator binds more tightly, what stands to the right at least as
-- tightly:
-- so `a + b + c` is `a + (b + c)`.
abbrev pub Within : ℕ → ℕ → (Tokens → Tokens → Type 0) → Tokens → Tokens → Type 0
Within level most Tokens ts rest = (level ≤ most) × Tokens ts rest

-- a comma before the closing token may be left out
abbrev pub ClosingMark : TokenKind → Tokens → Tokens → Type 0
ClosingMark close ts rest = Mark close ts rest ⊎ Then (Mark kinds.Comma) (Mark close) ts rest

-- something between two tokens
abbrev pub Between : TokenKind → (Tokens → Tokens → Type 0) → TokenKind → Tokens → Tokens → Type 0
Between opening Inner closing = Then (Mark opening) (Then Inner (Mark closing))

-- `if`, a condition and its branch
abbrev pub Branch : (Tokens → Tokens → Type 0) → (Tokens → Tokens → Type 0) → Tokens → Tokens → Type 0
Branch Condition Consequence = Then (Word (codes "if")) (Then Condition (Between kinds.BraceL Consequence kinds.BraceR))

-- `else` and the other branch: in braces, or another conditional
abbrev pub Otherwise : (Tokens → Tokens → Type 0) → (Tokens → Tokens → Type 0) → Tokens → Tokens → Type 0
Otherwise Braced Chained = Then (Word (codes "else"))
    (λ ts rest. Between kinds.BraceL Braced kinds.BraceR ts rest ⊎ (BeginsIf ts × Chained ts rest))

-- the text after an interpolation
abbrev pub TextBefore : Pieces → Style → Literal → Tokens → Tokens → Type 0
TextBefore NoPiece style text = EndOfFormat style text
TextBefore (Piece e later ps) style text = MiddleOfFormat style text

-- a format string with these interpolations
abbrev pub Formatted : Literal → Pieces → (Style → Tokens → Tokens → Type 0) → Tokens → Tokens → Type 0
Formatted start NoPiece Interpolations = WholeFormat start
Formatted start (Piece e text ps) Interpolations = StartOfFormat start Interpolations

abbrev mutual
  -- an expression of at least this level is written by the tokens from `ts` up to `rest`
  pub reads : Expr → ℕ → Tokens → Tokens → Type 0
  reads (Or l r) level = Within level 0 (Then (reads l 1) (Then (Mark kinds.BarBar) (reads r 0)))
  reads (And l r) level = Within level 1 (Then (reads l 2) (Then (Mark kinds.AmpersandAmpersand) (reads r 1)))
  reads (Comparison l o r t) level = Within level 2 (Then (reads l 3) (Then (One (comparison_kind o) t) (reads r 2)))
  reads (Concatenation l t r) level = Within level 3 (Then (reads l 4) (Then (One kinds.Plus t) (reads r 3)))
  reads (ListConcatenation l t r) level = Within level 3 (Then (reads l 4) (Then (One kinds.PlusPlus t) (reads r 3)))
  reads (Join l t r) level = Within level 3 (Then (reads l 4) (Then (One kinds.Slash t) (reads r 3)))
  reads (JoinOnly t r) level = Within level 3 (Then (One kinds.Slash t) (reads r 3))
  reads (Conditional c a b) level =
      Within level 3 (Then (Branch (reads c 0) (reads a 0)) (Otherwise (reads b 0) (reads b 3)))
  reads (ConditionalOnly c a) level = Within level 3 (Branch (reads c 0) (reads a 0))
  reads (Not e) level = Then (Mark kinds.Bang) (reads e 4)
  reads (Group e) level = Between kinds.ParenL (reads e 0) kinds.ParenR
  reads (ListOf es t) level = Then (One kinds.BracketL t) (reads_elements es kinds.BracketR)
  reads (Call t es) level = Then (CallName t) (Then (Mark kinds.ParenL) (reads_elements es kinds.ParenR))
  reads (AssertOnly e t) level = Then (AssertName t) (Between kinds.ParenL (reads e 0) kinds.ParenR)
  reads (Assert e m t) level = Then (AssertName t)
      (Between kinds.ParenL (Then (reads e 0) (Then (Mark kinds.Comma) (reads m 0))) kinds.ParenR)
  reads (Backtick text t) level = Command text t
  reads (StringLiteral literal) level = String literal
  reads (FormatString start ps) level = Formatted start ps (interpolations ps)
  reads (Variable t number) level = Named number t

  -- expressions with commas between them, up to a closing token
  pub reads_elements : Exprs → TokenKind → Tokens → Tokens → Type 0
  reads_elements Nil close = Mark close
  reads_elements (Cons e es) close = Then (reads e 0) (more es close)

  -- what follows an element
  pub more : Exprs → TokenKind → Tokens → Tokens → Type 0
  more Nil close = ClosingMark close
  more (Cons e es) close = Then (Mark kinds.Comma) (Then (reads e 0) (more es close))

  -- interpolations, each with the text after it
  pub interpolations : Pieces → Style → Tokens → Tokens → Type 0
  interpolations NoPiece style = Nothing
  interpolations (Piece e text ps) style = Then (reads e 0) (Then (TextBefore ps style text) (interpolations ps style))
