-- The effect of lines on the expressions that are not yet assigned, the last pushed first.
use Rattle.std.specs.Prelude.{ℕ, zero, suc, false, List, [], ◌∷◌, Option, Some, None, codes}
use Rattle.std.specs.Option.{option_map}
use Rattle.just_syntax.specs.declared.conditional_operator.ConditionalOperator.TheVariants.{Equality, Inequality}
use Rattle.just_syntax.specs.declared.conditional_operator.ConditionalOperator.TheVariants.{RegexMatch, RegexMismatch}
use Rattle.just_syntax.specs.Plain as plain
use Rattle.just_syntax.specs.Plain.{Expr, Exprs, Nil, Cons}
use Rattle.just_case_reader.specs.declared.operator.UnaryOperator.{UnaryOperator}
use Rattle.just_case_reader.specs.declared.operator.UnaryOperator.TheVariants.{Root, Not, Group, Assert}
use Rattle.just_case_reader.specs.declared.operator.BinaryOperator.{BinaryOperator}
use Rattle.just_case_reader.specs.declared.operator.BinaryOperator.TheVariants.{Add, Join, Cat, And, Or, Equal}
use Rattle.just_case_reader.specs.declared.operator.BinaryOperator.TheVariants.{NotEqual, Match, Mismatch}
use Rattle.just_case_reader.specs.declared.operator.BinaryOperator.TheVariants.{AssertMessage, When}
use Rattle.just_case_reader.specs.Token.{token_of}
use Rattle.just_case_reader.specs.Line.{CaseLine, Literal, Command, Variable, Unary, Binary, If, ListOf, Call, Assign}
use Rattle.just_case_reader.specs.Line.{Function, Run, Const, Blocks}
use Rattle.just_case_reader.specs.Numbering.{KnownNames, number_of}

-- an operator applied to one expression
abbrev pub of_operand : UnaryOperator → Expr → Expr
of_operand Root e = plain.JoinOnly (token_of (codes "/")) e
of_operand Not e = plain.Not e
of_operand Group e = plain.Group e
of_operand Assert e = plain.AssertOnly e (token_of (codes "assert"))

-- an operator applied to two expressions
abbrev pub together : BinaryOperator → Expr → Expr → Expr
together Add l r = plain.Concatenation l (token_of (codes "+")) r
together Join l r = plain.Join l (token_of (codes "/")) r
together Cat l r = plain.ListConcatenation l (token_of (codes "++")) r
together And l r = plain.And l r
together Or l r = plain.Or l r
together Equal l r = plain.Comparison l Equality r (token_of (codes "=="))
together NotEqual l r = plain.Comparison l Inequality r (token_of (codes "!="))
together Match l r = plain.Comparison l RegexMatch r (token_of (codes "=~"))
together Mismatch l r = plain.Comparison l RegexMismatch r (token_of (codes "!~"))
together AssertMessage l r = plain.Assert l r (token_of (codes "assert"))
together When l r = plain.ConditionalOnly l r

-- n expressions taken from the top and prepended to `parts`, in the order in which they were pushed; and the
-- expressions below
abbrev pub several : ℕ → Exprs → List Expr → Option (Exprs × List Expr)
several zero parts es = Some (parts, es)
several (suc n) parts [] = None
several (suc n) parts (e ∷ es) = several n (Cons e parts) es

-- the expressions taken are replaced by the form built from them
abbrev pub of_several : (Exprs → Expr) → Option (Exprs × List Expr) → Option (List Expr)
of_several form taken = option_map (λ taken. form taken.0 ∷ taken.1) taken

-- the expressions after a line; `None` if the line needs more than there are, or ends the case and there are some
abbrev pub stack_after : CaseLine → KnownNames → List Expr → Option (List Expr)
stack_after (Literal text lexeme) names es =
    Some (plain.StringLiteral (record { cooked = text; lexeme = lexeme; indented = false }) ∷ es)
stack_after (Command text lexeme) names es = Some (plain.Backtick text (token_of lexeme) ∷ es)
stack_after (Variable name) names es = Some (plain.Variable (token_of name) (Some (number_of names name)) ∷ es)
stack_after (Unary operator) names [] = None
stack_after (Unary operator) names (e ∷ es) = Some (of_operand operator e ∷ es)
stack_after (Binary operator) names [] = None
stack_after (Binary operator) names (r ∷ []) = None
stack_after (Binary operator) names (r ∷ l ∷ es) = Some (together operator l r ∷ es)
stack_after If names [] = None
stack_after If names (b ∷ []) = None
stack_after If names (b ∷ a ∷ []) = None
stack_after If names (b ∷ a ∷ e ∷ es) = Some (plain.Conditional e a b ∷ es)
stack_after (ListOf n) names es = of_several (λ parts. plain.ListOf parts (token_of (codes "["))) (several n Nil es)
stack_after (Call name n) names es = of_several (λ parts. plain.Call (token_of name) parts) (several n Nil es)
stack_after (Assign name export) names [] = None
stack_after (Assign name export) names (e ∷ es) = Some es
stack_after (Function text) names [] = None
stack_after (Function text) names (e ∷ es) = Some es
stack_after Run names [] = Some []
stack_after Run names (e ∷ es) = None
stack_after Const names [] = Some []
stack_after Const names (e ∷ es) = None
stack_after (Blocks text) names [] = Some []
stack_after (Blocks text) names (e ∷ es) = None
stack_after _ names es = Some es
