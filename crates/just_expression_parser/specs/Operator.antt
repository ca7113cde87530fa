-- Operators between two expressions.
use Rattle.std.specs.Prelude.{ℕ, Option, Some, None}
use Rattle.just_syntax.specs.Plain.{Expr, And, Comparison, Concatenation, Join, ListConcatenation, Or, Token}
use Rattle.just_syntax.specs.declared.conditional_operator.ConditionalOperator.{ConditionalOperator}
use Rattle.just_syntax.specs.declared.conditional_operator.ConditionalOperator.TheVariants.{Equality, Inequality}
use Rattle.just_syntax.specs.declared.conditional_operator.ConditionalOperator.TheVariants.{RegexMatch, RegexMismatch}
use Rattle.just_lexer.specs.declared.kind.TokenKind.{TokenKind}
use Rattle.just_lexer.specs.declared.kind.TokenKind.TheVariants as kinds
use Rattle.just_expression_parser.specs.declared.operator.Operator.{Operator}
use Rattle.just_expression_parser.specs.declared.operator.Operator.TheVariants as operators

-- the operator that a token of this kind is
abbrev pub operator_of : TokenKind → Option Operator
operator_of kinds.AmpersandAmpersand = Some operators.And
operator_of kinds.BangEquals = Some (operators.Comparison Inequality)
operator_of kinds.BangTilde = Some (operators.Comparison RegexMismatch)
operator_of kinds.BarBar = Some operators.Or
operator_of kinds.EqualsEquals = Some (operators.Comparison Equality)
operator_of kinds.EqualsTilde = Some (operators.Comparison RegexMatch)
operator_of kinds.Plus = Some operators.Concatenation
operator_of kinds.PlusPlus = Some operators.ListConcatenation
operator_of kinds.Slash = Some operators.Join
operator_of _ = None

-- how tightly an operator binds
abbrev pub level : Operator → ℕ
level operators.Or = 0
level operators.And = 1
level (operators.Comparison operator) = 2
level operators.Concatenation = 3
level operators.Join = 3
level operators.ListConcatenation = 3

-- the kind of the token of a comparison
abbrev pub comparison_kind : ConditionalOperator → TokenKind
comparison_kind Equality = kinds.EqualsEquals
comparison_kind Inequality = kinds.BangEquals
comparison_kind RegexMatch = kinds.EqualsTilde
comparison_kind RegexMismatch = kinds.BangTilde

-- two expressions with an operator between them
abbrev pub operation : Expr → Operator → Token → Expr → Expr
operation lhs operators.And token rhs = And lhs rhs
operation lhs (operators.Comparison operator) token rhs = Comparison lhs operator rhs token
operation lhs operators.Concatenation token rhs = Concatenation lhs token rhs
operation lhs operators.Join token rhs = Join lhs token rhs
operation lhs operators.ListConcatenation token rhs = ListConcatenation lhs token rhs
operation lhs operators.Or token rhs = Or lhs rhs
