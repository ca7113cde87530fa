-- The lines of a case's answer. Each ends with a newline.
use Rattle.std.specs.Prelude.{List, [], ◌++◌, Option, Some, None, codes}
use Rattle.std.specs.List.{flat_map}
use Rattle.just_syntax.specs.ListOperator.{operator_text}
use Rattle.just_syntax.specs.Plain.{Text, Token}
use Rattle.just_value.specs.Frames.{Bound}
use Rattle.just_value.specs.Refusal.{Refusal, Assert, Backtick, Check, Const, EmptyInterpreter, EmptyListArgument}
use Rattle.just_value.specs.Refusal.{FunctionCall, Internal, LeftOut, LeftOutRegex, ListInStringContext, ListOperation}
use Rattle.just_value.specs.Refusal.{RecursionLimit}
use Rattle.just_value.specs.Said.{error_text}
use Rattle.just_value.specs.Shown.{quoted, shown}
use Rattle.just_value.specs.Value.{Value}
use Rattle.just_host.specs.Fault.{fault_text}
use Rattle.just_host.specs.Printed.{kept_printed}
use Rattle.just_host.specs.Recorded.{Kept}

abbrev pub with_newline : Text → Text
with_newline text = text ++ codes "\n"

-- the line of a question
abbrev pub question_line : Kept → Text
question_line question = with_newline (codes "? " ++ kept_printed question)

abbrev pub question_lines : List Kept → Text
question_lines = flat_map question_line

-- the line of a name and its value
abbrev pub value_line : Token → Value → Text
value_line name value = with_newline ((name.lexeme ++ codes " = ") ++ shown value)

-- the line of a name whose value is still open
abbrev pub open_line : Token → Text
open_line name = with_newline (name.lexeme ++ codes " open")

-- the lines of a scope's bindings
abbrev pub binding_lines : List Bound → Text
binding_lines = flat_map (λ bound. value_line bound.name bound.value)

-- names, each after a space
abbrev pub name_words : List Token → Text
name_words = flat_map (λ (name : Token). codes " " ++ name.lexeme)

-- the line of the names of an order
abbrev pub order_line : List Token → Text
order_line names = with_newline (codes "order" ++ name_words names)

-- two texts separated by a space
abbrev pub space_between : Text → Text → Text
space_between one other = (one ++ codes " ") ++ other

-- why a run was refused: a number, a name, and the message; no run is refused for an empty interpreter
abbrev pub run_refusal_text : Refusal → Text
run_refusal_text (Assert message t) = space_between (codes "1 Assert") (quoted message)
run_refusal_text (Backtick t fault) = space_between (codes "2 Backtick") (quoted (fault_text fault))
run_refusal_text (Const c) = codes "3 Const"
run_refusal_text (EmptyListArgument parameter recipe) =
    space_between (space_between (codes "4 EmptyListArgument") parameter) recipe
run_refusal_text (FunctionCall function message) =
    space_between (space_between (codes "5 FunctionCall") function.lexeme) (quoted message)
run_refusal_text (Internal message t) = space_between (codes "6 Internal") (quoted message)
run_refusal_text (LeftOut function) = space_between (codes "7 LeftOut") function.lexeme
run_refusal_text (LeftOutRegex t) = codes "8 LeftOutRegex"
run_refusal_text (ListInStringContext context value) = space_between (codes "9 ListInStringContext") (shown value)
run_refusal_text (ListOperation l operator r t) =
    space_between (space_between (space_between (codes "10 ListOperation") (shown l)) (operator_text operator))
    (shown r)
run_refusal_text (RecursionLimit last) = space_between (codes "11 RecursionLimit") last.lexeme
run_refusal_text (Check parameter message) = space_between (codes "13 Check") (quoted message)
run_refusal_text (EmptyInterpreter t) = []

-- the same, or `OutOfMemory` if there is no refusal
abbrev pub refused_text : Option Refusal → Text
refused_text (Some r) = run_refusal_text r
refused_text None = codes "12 OutOfMemory"

abbrev pub refusal_line : Option Refusal → Text
refusal_line r = with_newline (space_between (codes "refused") (refused_text r))

-- why assignments were refused before any run
abbrev pub const_refused_text : Option Refusal → Text
const_refused_text None = codes "OutOfMemory"
const_refused_text r = error_text r

abbrev pub const_refusal_line : Option Refusal → Text
const_refusal_line r = with_newline (codes "refused: " ++ const_refused_text r)
