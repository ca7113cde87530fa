-- An operational semantics of expressions, given as interaction trees: what an expression asks, in order, and its
-- value. One line per form.
use Rattle.std.specs.Prelude.{ℕ, suc, Bool, true, false, not, List, [], ◌∷◌, ◌++◌, length, Option, Some, None, nat_eq}
use Rattle.std.specs.Prelude.{if◌then◌else◌}
use Rattle.std.specs.List.{flat_map}
use Rattle.just_syntax.specs.Plain.{Text, Token, Literal, Expr, And, Assert, AssertOnly, Backtick, Call, Comparison}
use Rattle.just_syntax.specs.Plain.{Concatenation, Conditional, ConditionalOnly, FormatString, Group, Join, JoinOnly}
use Rattle.just_syntax.specs.Plain.{ListOf, ListConcatenation, Not, Or, StringLiteral, Variable, Exprs, Nil, Cons}
use Rattle.just_syntax.specs.Plain.{count, Pieces, NoPiece, Piece, Function}
use Rattle.just_syntax.specs.declared.conditional_operator.ConditionalOperator.{ConditionalOperator}
use Rattle.just_syntax.specs.declared.conditional_operator.ConditionalOperator.TheVariants.{Inequality, RegexMatch}
use Rattle.just_syntax.specs.declared.conditional_operator.ConditionalOperator.TheVariants.{RegexMismatch}
use Rattle.just_syntax.specs.declared.list_operator.ListOperator.{ListOperator}
use Rattle.just_syntax.specs.declared.list_operator.ListOperator.TheVariants as operators
use Rattle.just_syntax.specs.StringContext as contexts
use Rattle.just_syntax.specs.Printed.{printed}
use Rattle.just_syntax.specs.Unindented.{unindented}
use Rattle.just_value.specs.Value.{Value, Names, is_truthy, is_same, from_condition, joined}
use Rattle.just_value.specs.Frames.{Frames}
use Rattle.just_value.specs.Applied.{combined}
use Rattle.just_value.specs.Refusal as refusal
use Rattle.just_value.specs.Refusal.{Fault, Code, Message, NoMemory, Internal}
use Rattle.just_value.specs.Outcome.{Outcome, Gave, Refused, Stopped}
use Rattle.just_host.specs.Fixed.{Fixed}
use Rattle.just_host.specs.Question.{Answer, Replied, Failed, command_question}
use Rattle.just_host.specs.Interaction.{Read, Entered, Command, Tree, done, ask, note, bind, gives, refuses}
use Rattle.just_host.specs.Function as function
use Rattle.just_builtins.specs.Called.{Called, Returned, Said, tree}
use Rattle.just_builtins.specs.Meaning.{reply}
use Rattle.just_builtins.specs.Shape.{builtin_of, is_text}
use Rattle.just_builtins.specs.declared.function.Function as built_in
use Rattle.just_meaning.specs.Callee.{Callee, Defined, BuiltIn, LeftOut, Unknown, accepts, callee}
use Rattle.just_meaning.specs.Messages.{unresolved_text, unevaluated_text, unknown_function_text, miscounted_text}

-- what is fixed in a run: the context, and the functions that the file defines
pub record Program : Type 0 where
  pub fixed : Fixed
  pub functions : List Function

-- What an expression is evaluated in: the names that it can read, the recipe's environment and name, whether the recipe
-- runs as a dependency, whether lists are on, the frames that a command is shown, and those that a called body's frame
-- is put on.
pub record Situation : Type 0 where
  pub names : Names
  pub environment : List (Text × Text)
  pub recipe : Option Text
  pub is_dependency : Bool
  pub lists : Bool
  pub shown : Frames
  pub below : Frames

-- The fuel of calls: at the recursion limit a call is refused; otherwise a body may be evaluated.
pub data Deeper : Type 0 where
  AtLimit : Deeper
  WithinLimit : (Function → Situation → List Value → Tree Value) → Deeper

-- the value of a name, or a refusal if it has none
abbrev pub named : Token → Option Value → Outcome Value
named t (Some v) = Gave v
named t None = Refused (Internal (unevaluated_text t.lexeme) t)

abbrev pub variable : Token → Option ℕ → Names → Tree Value
variable t None names = refuses (Internal (unresolved_text t.lexeme) t)
variable t (Some n) names = note (Read t n) (done (named t (names n)))

-- the outcome of a command expression's fault
abbrev pub faulted : Token → Fault → Outcome Value
faulted t (Code n) = Refused (refusal.Backtick t (Code n))
faulted t (Message text) = Refused (refusal.Backtick t (Message text))
faulted t NoMemory = Stopped

-- the text that a command gave, or its fault
abbrev pub answered : Token → Answer → Outcome Value
answered t (Replied text) = Gave (text ∷ [])
answered t (Failed f) = faulted t f
-- a host answers a command in no other way
answered t _ = Stopped

-- what a command expression evaluates to: its text in backticks in a dry run, else the host's answer
abbrev pub command_value : Fixed → List (Text × Text) → Frames → Text → Token → Tree Value
command_value f environment shown text t = if f.config.dry_run then gives (((96 ∷ text) ++ 96 ∷ []) ∷ [])
    else ask (command_question f environment shown text None) (λ a. done (answered t a))

abbrev pub command : Fixed → Situation → Text → Token → Tree Value
command f s text t = note (Command t) (command_value f s.environment s.shown text t)

-- a value as a text argument of a function: its one element
abbrev pub one_text : Token → Value → Tree Value
one_text t (text ∷ []) = gives (text ∷ [])
one_text t v = refuses (refusal.ListInStringContext (contexts.Function t) v)

-- a text where one is required, else any value
abbrev pub argument : Bool → Token → Value → Tree Value
argument is_text t v = if is_text then one_text t v else gives v

-- the context of a call of a built-in function
abbrev pub built_in_context : Program → Situation → Token → function.Context
built_in_context c s t = record {
  environment = s.environment;
  fixed = c.fixed;
  is_dependency = s.is_dependency;
  name = t;
  recipe = s.recipe;
}

-- a built-in function's own message is a refusal
abbrev pub returned : Token → Called → Tree Value
returned t (Returned v) = gives v
returned t (Said message) = refuses (refusal.FunctionCall t message)

-- what a built-in function returns; it is shown the frames that can be read
abbrev pub built_in_call : Program → Situation → Token → built_in.Function → List Value → Tree Value
built_in_call c s t f vs = bind (tree s.shown (reply (builtin_of f) (built_in_context c s t) vs)) (returned t)

-- A row of values. Each is passed to a function, with its index from 0, before the next is evaluated.
abbrev pub Row : Type 0
Row = (ℕ → Value → Tree Value) → Tree (List Value)

-- the value itself
abbrev pub as_it_is : ℕ → Value → Tree Value
as_it_is i v = gives v

-- the arguments at a built-in function's text positions must be texts
abbrev pub texts_of : built_in.Function → Token → ℕ → Value → Tree Value
texts_of f t i v = argument (is_text f i) t v

-- A call with this many arguments. Before they are evaluated it is refused for what its name stands for, then at the
-- recursion limit, then for their number.
abbrev pub called : Program → Token → Callee → Deeper → Situation → ℕ → Row → Tree Value
called c t (Defined f) AtLimit s n row = refuses (refusal.RecursionLimit f.name)
called c t (Defined f) (WithinLimit run) s n row = if nat_eq n (length f.parameters) then bind (row as_it_is) (run f s)
    else refuses (Internal (miscounted_text t.lexeme) t)
called c t (BuiltIn f) d s n row = if accepts (BuiltIn f) n then bind (row (texts_of f t)) (built_in_call c s t f)
    else refuses (Internal (miscounted_text t.lexeme) t)
called c t LeftOut d s n row = refuses (refusal.LeftOut t)
called c t Unknown d s n row = refuses (Internal (unknown_function_text t.lexeme) t)

-- the second value if the first is truthy, else no element
abbrev pub conjunction : Tree Value → Tree Value → Tree Value
conjunction l r = bind l (λ v. if is_truthy v then r else gives [])

-- the first value if it is truthy, else the second
abbrev pub disjunction : Tree Value → Tree Value → Tree Value
disjunction l r = bind l (λ v. if is_truthy v then gives v else r)

-- one branch or the other, by the truth of the condition
abbrev pub choice : Tree Value → Tree Value → Tree Value → Tree Value
choice condition consequence otherwise = bind condition (λ v. if is_truthy v then consequence else otherwise)

-- two values, combined
abbrev pub combination : ListOperator → Tree Value → Token → Tree Value → Tree Value
combination o l t r = bind l (λ v. bind r (λ w. done (combined v o w t)))

-- the elements of both
abbrev pub succession : Tree Value → Tree Value → Tree Value
succession l r = bind l (λ v. bind r (λ w. gives (v ++ w)))

-- one text if the value has no element, else no element
abbrev pub negation : Tree Value → Tree Value
negation e = bind e (λ v. gives (from_condition (not (is_truthy v))))

abbrev pub is_regex : ConditionalOperator → Bool
is_regex RegexMatch = true
is_regex RegexMismatch = true
is_regex _ = false

abbrev pub compared : ConditionalOperator → Value → Value → Value
compared Inequality v w = from_condition (not (is_same v w))
compared _ v w = from_condition (is_same v w)

-- whether two values are equal or differ; a regular expression operator is refused before its operands are evaluated
abbrev pub comparison : ConditionalOperator → Token → Tree Value → Tree Value → Tree Value
comparison o t l r =
    if is_regex o then refuses (refusal.LeftOutRegex t) else bind l (λ v. bind r (λ w. gives (compared o v w)))

-- what an assertion that holds evaluates to: the condition's value with lists, one empty text without
abbrev pub asserted : Bool → Value → Value
asserted true v = v
asserted false v = [] ∷ []

-- a condition that must be truthy; otherwise a refusal with the message
abbrev pub assertion : Bool → Token → Tree Value → Tree Text → Tree Value
assertion lists t condition message = bind condition (λ v. if is_truthy v then gives (asserted lists v)
    else bind message (λ text. refuses (refusal.Assert text t)))

abbrev pub unindented_if : Bool → Text → Text
unindented_if indented text = if indented then unindented text else text

-- a format string's text: its start and what follows it, unindented if the start is indented
abbrev pub formatted : Literal → Text → Text
formatted start text = unindented_if start.indented (start.cooked ++ text)

-- the elements of all, in their order
abbrev pub flatten : List Value → Value
flatten vs = flat_map (λ v. v) vs

abbrev mutual
  pub eval : Program → Deeper → Situation → Expr → Tree Value
  eval c d s (And l r) = conjunction (eval c d s l) (eval c d s r)
  eval c d s (Assert e m t) = assertion s.lists t (eval c d s e) (bind (eval c d s m) (λ w. gives (joined w)))
  eval c d s (AssertOnly e t) = assertion s.lists t (eval c d s e) (gives ((96 ∷ printed e) ++ 96 ∷ []))
  eval c d s (Backtick text t) = command c.fixed s text t
  eval c d s (Call t es) =
      note (Entered t) (called c t (callee c.functions t.lexeme) d s (count es) (eval_row c d s 0 es))
  eval c d s (Comparison l o r t) = comparison o t (eval c d s l) (eval c d s r)
  eval c d s (Concatenation l t r) = combination operators.Concatenate (eval c d s l) t (eval c d s r)
  eval c d s (Conditional e a b) = choice (eval c d s e) (eval c d s a) (eval c d s b)
  eval c d s (ConditionalOnly e a) = choice (eval c d s e) (eval c d s a) (gives [])
  eval c d s (FormatString start pieces) = bind (eval_pieces c d s pieces) (λ text. gives (formatted start text ∷ []))
  eval c d s (Group e) = eval c d s e
  eval c d s (Join l t r) = combination operators.Join (eval c d s l) t (eval c d s r)
  eval c d s (JoinOnly t r) = combination operators.Join (gives ([] ∷ [])) t (eval c d s r)
  eval c d s (ListOf es t) = bind (eval_row c d s 0 es as_it_is) (λ vs. gives (flatten vs))
  eval c d s (ListConcatenation l t r) = succession (eval c d s l) (eval c d s r)
  eval c d s (Not e) = negation (eval c d s e)
  eval c d s (Or l r) = disjunction (eval c d s l) (eval c d s r)
  eval c d s (StringLiteral literal) = gives (literal.cooked ∷ [])
  eval c d s (Variable t number) = variable t number s.names

  -- the values of all, in their order, from an index on
  pub eval_row : Program → Deeper → Situation → ℕ → Exprs → Row
  eval_row c d s i Nil look = gives []
  eval_row c d s i (Cons e es) look =
      bind (bind (eval c d s e) (look i)) (λ v. bind (eval_row c d s (suc i) es look) (λ vs. gives (v ∷ vs)))

  -- each interpolation joined, and the text after it
  pub eval_pieces : Program → Deeper → Situation → Pieces → Tree Text
  eval_pieces c d s NoPiece = gives []
  eval_pieces c d s (Piece e literal pieces) =
      bind (eval c d s e) (λ v. bind (eval_pieces c d s pieces) (λ text. gives ((joined v ++ literal.cooked) ++ text)))

-- ---- optional parts

-- the branch, or no element
abbrev pub branch : Program → Deeper → Situation → Option Expr → Tree Value
branch c d s None = gives []
branch c d s (Some e) = eval c d s e

-- the message joined, or the printed condition in backticks
abbrev pub assertion_text : Program → Deeper → Situation → Expr → Option Expr → Tree Text
assertion_text c d s condition None = gives ((96 ∷ printed condition) ++ 96 ∷ [])
assertion_text c d s condition (Some e) = bind (eval c d s e) (λ w. gives (joined w))
