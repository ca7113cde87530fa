-- Expressions whose variables have other numbers.
use Rattle.std.specs.Prelude.{ℕ, Option}
use Rattle.just_syntax.specs.Plain.{Text, Expr, And, Assert, AssertOnly, Backtick, Call, Comparison, Concatenation}
use Rattle.just_syntax.specs.Plain.{Conditional, ConditionalOnly, FormatString, Group, Join, JoinOnly, ListOf}
use Rattle.just_syntax.specs.Plain.{ListConcatenation, Not, Or, StringLiteral, Variable, Exprs, Nil, Cons, Pieces}
use Rattle.just_syntax.specs.Plain.{NoPiece, Piece}

-- the number of a variable, by its name and the number that it had
abbrev pub Numbering : Type 0
Numbering = Text → Option ℕ → Option ℕ

-- each variable keeps its number
abbrev pub as_before : Numbering
as_before name number = number

-- the expression in which each variable has another number
abbrev mutual
  pub renumbered : Numbering → Expr → Expr
  renumbered by (And l r) = And (renumbered by l) (renumbered by r)
  renumbered by (Assert e m t) = Assert (renumbered by e) (renumbered by m) t
  renumbered by (AssertOnly e t) = AssertOnly (renumbered by e) t
  renumbered by (Backtick text t) = Backtick text t
  renumbered by (Call t es) = Call t (renumbered_row by es)
  renumbered by (Comparison l o r t) = Comparison (renumbered by l) o (renumbered by r) t
  renumbered by (Concatenation l t r) = Concatenation (renumbered by l) t (renumbered by r)
  renumbered by (Conditional e a b) = Conditional (renumbered by e) (renumbered by a) (renumbered by b)
  renumbered by (ConditionalOnly e a) = ConditionalOnly (renumbered by e) (renumbered by a)
  renumbered by (FormatString start pieces) = FormatString start (renumbered_pieces by pieces)
  renumbered by (Group e) = Group (renumbered by e)
  renumbered by (Join l t r) = Join (renumbered by l) t (renumbered by r)
  renumbered by (JoinOnly t r) = JoinOnly t (renumbered by r)
  renumbered by (ListOf es t) = ListOf (renumbered_row by es) t
  renumbered by (ListConcatenation l t r) = ListConcatenation (renumbered by l) t (renumbered by r)
  renumbered by (Not e) = Not (renumbered by e)
  renumbered by (Or l r) = Or (renumbered by l) (renumbered by r)
  renumbered by (StringLiteral literal) = StringLiteral literal
  renumbered by (Variable t number) = Variable t (by t.lexeme number)

  pub renumbered_row : Numbering → Exprs → Exprs
  renumbered_row by Nil = Nil
  renumbered_row by (Cons e es) = Cons (renumbered by e) (renumbered_row by es)

  pub renumbered_pieces : Numbering → Pieces → Pieces
  renumbered_pieces by NoPiece = NoPiece
  renumbered_pieces by (Piece e literal pieces) =
      Piece (renumbered by e) literal (renumbered_pieces by pieces)
