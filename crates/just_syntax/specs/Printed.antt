-- How expressions are printed.
use Rattle.std.specs.Prelude.{[], ◌++◌, codes, Option, Some, None}
use Rattle.just_syntax.specs.declared.conditional_operator.ConditionalOperator.{ConditionalOperator}
use Rattle.just_syntax.specs.declared.conditional_operator.ConditionalOperator.TheVariants.{Equality, Inequality}
use Rattle.just_syntax.specs.declared.conditional_operator.ConditionalOperator.TheVariants.{RegexMatch, RegexMismatch}
use Rattle.just_syntax.specs.Plain.{Text, Expr, And, Assert, AssertOnly, Backtick, Call, Comparison, Concatenation}
use Rattle.just_syntax.specs.Plain.{Conditional, ConditionalOnly, FormatString, Group, Join, JoinOnly, ListOf}
use Rattle.just_syntax.specs.Plain.{ListConcatenation, Not, Or, StringLiteral, Variable, Exprs, Nil, Cons, Pieces}
use Rattle.just_syntax.specs.Plain.{NoPiece, Piece}

-- the comparison operator as written
abbrev pub comparison_text : ConditionalOperator → Text
comparison_text Equality = codes "=="
comparison_text Inequality = codes "!="
comparison_text RegexMatch = codes "=~"
comparison_text RegexMismatch = codes "!~"

-- two texts with an operator between them, a space on each side of it
abbrev pub between : Text → Text → Text → Text
between l operator r = (((l ++ codes " ") ++ operator) ++ codes " ") ++ r

-- an assertion, with or without its message
abbrev pub printed_assertion : Text → Option Text → Text
printed_assertion condition (Some message) = (((codes "assert(" ++ condition) ++ codes ", ") ++ message) ++ codes ")"
printed_assertion condition None = (codes "assert(" ++ condition) ++ codes ")"

-- a conditional, with or without its other branch
abbrev pub printed_conditional : Text → Text → Option Text → Text
printed_conditional condition consequence (Some otherwise) =
    (((((codes "if " ++ condition) ++ codes " { ") ++ consequence) ++ codes " } else { ") ++ otherwise) ++ codes " }"
printed_conditional condition consequence None =
    (((codes "if " ++ condition) ++ codes " { ") ++ consequence) ++ codes " }"

-- a join, with or without its left side
abbrev pub printed_join : Option Text → Text → Text
printed_join (Some l) r = between l (codes "/") r
printed_join None r = codes "/ " ++ r

-- a call, its arguments in parentheses after the name
abbrev pub printed_call : Text → Text → Text
printed_call name arguments = ((name ++ codes "(") ++ arguments) ++ codes ")"

abbrev mutual
  pub printed : Expr → Text
  printed (And l r) = between (printed l) (codes "&&") (printed r)
  printed (Assert e m t) = printed_assertion (printed e) (Some (printed m))
  printed (AssertOnly e t) = printed_assertion (printed e) None
  printed (Backtick text t) = t.lexeme
  printed (Call t es) = printed_call t.lexeme (printed_row [] es)
  printed (Comparison l o r t) = between (printed l) (comparison_text o) (printed r)
  printed (Concatenation l t r) = between (printed l) (codes "+") (printed r)
  printed (Conditional e a b) = printed_conditional (printed e) (printed a) (Some (printed b))
  printed (ConditionalOnly e a) = printed_conditional (printed e) (printed a) None
  printed (FormatString start pieces) = start.lexeme ++ printed_pieces pieces
  printed (Group e) = (codes "(" ++ printed e) ++ codes ")"
  printed (Join l t r) = printed_join (Some (printed l)) (printed r)
  printed (JoinOnly t r) = printed_join None (printed r)
  printed (ListOf es t) = (codes "[" ++ printed_row [] es) ++ codes "]"
  printed (ListConcatenation l t r) = between (printed l) (codes "++") (printed r)
  printed (Not e) = codes "!" ++ printed e
  printed (Or l r) = between (printed l) (codes "||") (printed r)
  printed (StringLiteral literal) = literal.lexeme
  printed (Variable t number) = t.lexeme

  -- expressions, with a comma and a space before each but the first
  pub printed_row : Text → Exprs → Text
  printed_row separator Nil = []
  printed_row separator (Cons e es) = (separator ++ printed e) ++ printed_row (codes ", ") es

  -- each interpolation, and the text after it
  pub printed_pieces : Pieces → Text
  printed_pieces NoPiece = []
  printed_pieces (Piece e literal pieces) = (printed e ++ literal.lexeme) ++ printed_pieces pieces
