-- The number of levels of an expression.
use Rattle.std.specs.Prelude.{suc, max, ℕ, Option, Some, None}
use Rattle.just_syntax.specs.Plain.{Expr, And, Assert, AssertOnly, Backtick, Call, Comparison, Concatenation}
use Rattle.just_syntax.specs.Plain.{Conditional, ConditionalOnly, FormatString, Group, Join, JoinOnly, ListOf}
use Rattle.just_syntax.specs.Plain.{ListConcatenation, Not, Or, StringLiteral, Variable, Exprs, Nil, Cons, Pieces}
use Rattle.just_syntax.specs.Plain.{NoPiece, Piece}

-- one more than that of its deepest part
abbrev mutual
  pub levels : Expr → ℕ
  levels (And l r) = suc (max (levels l) (levels r))
  levels (Assert e m t) = suc (max (levels e) (levels m))
  levels (AssertOnly e t) = suc (levels e)
  levels (Backtick text t) = 1
  levels (Call t es) = suc (levels_of_row es)
  levels (Comparison l o r t) = suc (max (levels l) (levels r))
  levels (Concatenation l t r) = suc (max (levels l) (levels r))
  levels (Conditional e a b) = suc (max (max (levels e) (levels a)) (levels b))
  levels (ConditionalOnly e a) = suc (max (levels e) (levels a))
  levels (FormatString start pieces) = suc (levels_of_pieces pieces)
  levels (Group e) = suc (levels e)
  levels (Join l t r) = suc (max (levels l) (levels r))
  levels (JoinOnly t r) = suc (levels r)
  levels (ListOf es t) = suc (levels_of_row es)
  levels (ListConcatenation l t r) = suc (max (levels l) (levels r))
  levels (Not e) = suc (levels e)
  levels (Or l r) = suc (max (levels l) (levels r))
  levels (StringLiteral literal) = 1
  levels (Variable t number) = 1

  -- that of the deepest of some expressions
  pub levels_of_row : Exprs → ℕ
  levels_of_row Nil = 0
  levels_of_row (Cons e es) = max (levels e) (levels_of_row es)

  pub levels_of_pieces : Pieces → ℕ
  levels_of_pieces NoPiece = 0
  levels_of_pieces (Piece e literal pieces) = max (levels e) (levels_of_pieces pieces)

-- that of an optional part
abbrev pub levels_of_part : Option Expr → ℕ
levels_of_part None = 0
levels_of_part (Some e) = levels e
