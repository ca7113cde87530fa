-- What occurs in an expression, in the order of its text.
use Rattle.std.specs.Prelude.{◌⊎◌, ℕ, List, [], ◌∷◌, ◌++◌, Option, Some, None}
use Rattle.just_syntax.specs.Plain.{Text, Token, Expr, And, Assert, AssertOnly, Backtick, Call, Comparison, Concatenation}
use Rattle.just_syntax.specs.Plain.{Conditional, ConditionalOnly, FormatString, Group, Join, JoinOnly, ListOf}
use Rattle.just_syntax.specs.Plain.{ListConcatenation, Not, Or, StringLiteral, Variable, Exprs, Nil, Cons, count}
use Rattle.just_syntax.specs.Plain.{Pieces, NoPiece, Piece}

-- what occurs in an expression, by its token: a command in backticks with its text; a call with the number of its
-- arguments; a variable with its number, if it has one
pub data Occurrence : Type 0 where
  CommandAt : Token → Text → Occurrence
  CallAt : Token → ℕ → Occurrence
  VariableAt : Token → Option ℕ → Occurrence

-- the same without its place: of a call the name, and not its token
pub data Mention : Type 0 where
  CommandOf : Text → Mention
  CallOf : Text → ℕ → Mention
  VariableOf : Option ℕ → Mention

abbrev pub mention_of : Occurrence → Mention
mention_of (CommandAt t text) = CommandOf text
mention_of (CallAt t n) = CallOf t.lexeme n
mention_of (VariableAt t number) = VariableOf number

abbrev pub occurs_at : Occurrence → Token
occurs_at (CommandAt t text) = t
occurs_at (CallAt t n) = t
occurs_at (VariableAt t number) = t

-- these, and then what occurs in an expression; a call comes before what occurs in its arguments
abbrev mutual
  pub occurring : List Occurrence → Expr → List Occurrence
  occurring os (And l r) = occurring (occurring os l) r
  occurring os (Assert e m t) = occurring (occurring os e) m
  occurring os (AssertOnly e t) = occurring os e
  occurring os (Backtick text t) = os ++ CommandAt t text ∷ []
  occurring os (Call t es) = occurring_in_row (os ++ CallAt t (count es) ∷ []) es
  occurring os (Comparison l o r t) = occurring (occurring os l) r
  occurring os (Concatenation l t r) = occurring (occurring os l) r
  occurring os (Conditional e a b) = occurring (occurring (occurring os e) a) b
  occurring os (ConditionalOnly e a) = occurring (occurring os e) a
  occurring os (FormatString start pieces) = occurring_in_pieces os pieces
  occurring os (Group e) = occurring os e
  occurring os (Join l t r) = occurring (occurring os l) r
  occurring os (JoinOnly t r) = occurring os r
  occurring os (ListOf es t) = occurring_in_row os es
  occurring os (ListConcatenation l t r) = occurring (occurring os l) r
  occurring os (Not e) = occurring os e
  occurring os (Or l r) = occurring (occurring os l) r
  occurring os (StringLiteral literal) = os
  occurring os (Variable t number) = os ++ VariableAt t number ∷ []

  pub occurring_in_row : List Occurrence → Exprs → List Occurrence
  occurring_in_row os Nil = os
  occurring_in_row os (Cons e es) = occurring_in_row (occurring os e) es

  pub occurring_in_pieces : List Occurrence → Pieces → List Occurrence
  occurring_in_pieces os NoPiece = os
  occurring_in_pieces os (Piece e literal pieces) = occurring_in_pieces (occurring os e) pieces

-- the same for an optional expression
abbrev pub occurring_in_some : List Occurrence → Option Expr → List Occurrence
occurring_in_some os None = os
occurring_in_some os (Some e) = occurring os e

-- the same for a call
abbrev pub occurring_in_call : List Occurrence → Token → Exprs → List Occurrence
occurring_in_call os t es = occurring_in_row (os ++ CallAt t (count es) ∷ []) es

-- what occurs in an expression
abbrev pub occurrences_in : Expr → List Occurrence
occurrences_in e = occurring [] e

-- what occurs in several expressions, one after another
abbrev pub all_occurrences : List Expr → List Occurrence
all_occurrences [] = []
all_occurrences (e ∷ es) = occurrences_in e ++ all_occurrences es

-- something with this property occurs in an expression
abbrev mutual
  pub SomeOccurs : (Occurrence → Type 0) → Expr → Type 0
  SomeOccurs P (And l r) = SomeOccurs P l ⊎ SomeOccurs P r
  SomeOccurs P (Assert e m t) = SomeOccurs P e ⊎ SomeOccurs P m
  SomeOccurs P (AssertOnly e t) = SomeOccurs P e
  SomeOccurs P (Backtick text t) = P (CommandAt t text)
  SomeOccurs P (Call t es) = P (CallAt t (count es)) ⊎ SomeOccursInRow P es
  SomeOccurs P (Comparison l o r t) = SomeOccurs P l ⊎ SomeOccurs P r
  SomeOccurs P (Concatenation l t r) = SomeOccurs P l ⊎ SomeOccurs P r
  SomeOccurs P (Conditional e a b) = SomeOccurs P e ⊎ SomeOccurs P a ⊎ SomeOccurs P b
  SomeOccurs P (ConditionalOnly e a) = SomeOccurs P e ⊎ SomeOccurs P a
  SomeOccurs P (FormatString start pieces) = SomeOccursInPieces P pieces
  SomeOccurs P (Group e) = SomeOccurs P e
  SomeOccurs P (Join l t r) = SomeOccurs P l ⊎ SomeOccurs P r
  SomeOccurs P (JoinOnly t r) = SomeOccurs P r
  SomeOccurs P (ListOf es t) = SomeOccursInRow P es
  SomeOccurs P (ListConcatenation l t r) = SomeOccurs P l ⊎ SomeOccurs P r
  SomeOccurs P (Not e) = SomeOccurs P e
  SomeOccurs P (Or l r) = SomeOccurs P l ⊎ SomeOccurs P r
  SomeOccurs P (StringLiteral literal) = ⊥
  SomeOccurs P (Variable t number) = P (VariableAt t number)

  pub SomeOccursInRow : (Occurrence → Type 0) → Exprs → Type 0
  SomeOccursInRow P Nil = ⊥
  SomeOccursInRow P (Cons e es) = SomeOccurs P e ⊎ SomeOccursInRow P es

  pub SomeOccursInPieces : (Occurrence → Type 0) → Pieces → Type 0
  SomeOccursInPieces P NoPiece = ⊥
  SomeOccursInPieces P (Piece e literal pieces) = SomeOccurs P e ⊎ SomeOccursInPieces P pieces
