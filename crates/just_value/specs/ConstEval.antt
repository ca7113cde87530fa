-- The refusals of constant evaluation: which refusals those are, and the message and the token of each.
use Rattle.std.specs.Prelude.{◌==◌, ◌||◌, ◌++◌, [], length, codes, if◌then◌else◌}
use Rattle.just_syntax.specs.Plain.{Text, Token}
use Rattle.just_syntax.specs.declared.list_operator.ListOperator.{ListOperator}
use Rattle.just_syntax.specs.ListOperator.{operator_text}
use Rattle.just_syntax.specs.StringContext as context
use Rattle.just_syntax.specs.StringContext.{StringContext, context_text}
use Rattle.just_value.specs.ConstRefusal as constant
use Rattle.just_value.specs.ConstRefusal.{ConstRefusal, const_token}
use Rattle.just_value.specs.Refusal.{Refusal, Assert, Backtick, Check, Const, EmptyInterpreter, EmptyListArgument}
use Rattle.just_value.specs.Refusal.{FunctionCall, Internal, LeftOut, LeftOutRegex, ListInStringContext, ListOperation}
use Rattle.just_value.specs.Refusal.{RecursionLimit}
use Rattle.just_value.specs.Shown.{shown}
use Rattle.just_value.specs.Value.{Value}

-- Whether constant evaluation can have this refusal. It runs no command, checks no argument and enters no function.
abbrev pub IsConstEval : Refusal → Type 0
IsConstEval (Assert message name) = Unit {0}
IsConstEval (Backtick t fault) = ⊥
IsConstEval (Check parameter message) = ⊥
IsConstEval (Const refusal) = Unit {0}
IsConstEval (EmptyInterpreter setting) = Unit {0}
IsConstEval (EmptyListArgument parameter recipe) = ⊥
IsConstEval (FunctionCall name message) = ⊥
IsConstEval (Internal message t) = Unit {0}
IsConstEval (LeftOut name) = ⊥
IsConstEval (LeftOutRegex t) = Unit {0}
IsConstEval (ListInStringContext wanted v) = Unit {0}
IsConstEval (ListOperation l o r t) = Unit {0}
IsConstEval (RecursionLimit name) = ⊥

abbrev pub const_error_text : ConstRefusal → Text
const_error_text (constant.Backtick t) = codes "cannot call backticks in const context"
const_error_text (constant.FunctionCall name) = codes "cannot call functions in const context"
const_error_text (constant.Variable name) =
    codes "cannot access non-const variable `" ++ (name.lexeme ++ codes "` in const context")

-- a value that is not one text, and the place that requires one
abbrev pub list_where : StringContext → Value → Text
list_where wanted v = codes "list value " ++ (shown v ++ (codes " " ++ context_text wanted))

-- what is added about a list where a function takes a text
abbrev pub undecided_text : Text
undecided_text =
    codes "\nthe behavior of lists with many built-in functions is undecided\nsee https://github.com/casey/just#lists"

-- a value that is not one text, with a note on lists as arguments of functions
abbrev pub list_text : StringContext → Value → Text
list_text (context.EnvKey name) v = list_where (context.EnvKey name) v
list_text (context.Function name) v = list_where (context.Function name) v ++ undecided_text
list_text (context.Setting name) v = list_where (context.Setting name) v

-- why an operator cannot be applied: empty lists, if one is empty, otherwise lists of different lengths
abbrev pub lists_text : Value → Text → Value → Text
lists_text l o r =
    if length l == 0 || length r == 0 then codes " cannot be applied to empty lists"
    else codes " cannot be applied to lists of different lengths: "
    ++ (shown l ++ (codes " " ++ (o ++ (codes " " ++ shown r))))

-- an operator, and why it cannot be applied
abbrev pub operation_text : Value → ListOperator → Value → Text
operation_text l o r = (codes "operator `" ++ (operator_text o ++ codes "`")) ++ lists_text l (operator_text o) r

-- the message of a refusal of constant evaluation; empty for the others
abbrev pub const_eval_text : Refusal → Text
const_eval_text (Assert message name) = codes "assert failed: " ++ message
const_eval_text (Const refusal) = const_error_text refusal
const_eval_text (EmptyInterpreter setting) =
    codes "`" ++ (setting.lexeme ++ codes "` setting requires at least one element but evaluated to empty list")
const_eval_text (Internal message t) = codes "internal error: " ++ message
const_eval_text (LeftOutRegex t) = codes "regular expression operators are left out"
const_eval_text (ListInStringContext wanted v) = list_text wanted v
const_eval_text (ListOperation l o r t) = operation_text l o r
const_eval_text _ = []

-- the token of no place in a file
abbrev pub no_token : Token
no_token = record { column = 0; line = 0; offset = 0; lexeme = []; path = [] }

-- the token of a refusal of constant evaluation; `no_token` for the others
abbrev pub const_eval_token : Refusal → Token
const_eval_token (Assert message name) = name
const_eval_token (Const refusal) = const_token refusal
const_eval_token (EmptyInterpreter setting) = setting
const_eval_token (Internal message t) = t
const_eval_token (LeftOutRegex t) = t
const_eval_token (ListInStringContext wanted v) = context.token wanted
const_eval_token (ListOperation l o r t) = t
const_eval_token _ = no_token
