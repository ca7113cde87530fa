-- The messages of refusals and faults, and the tokens of refusals.
use Rattle.std.specs.Prelude.{◌++◌, Option, Some, None, codes, option_and_then}
use Rattle.std.specs.Fmt.{signed_decimal}
use Rattle.just_syntax.specs.OutOfMemory.{no_memory_text}
use Rattle.just_syntax.specs.Plain.{Text, Token}
use Rattle.just_value.specs.ConstEval.{const_eval_text, const_eval_token}
use Rattle.just_value.specs.Refusal.{Fault, Code, Message, NoMemory, Refusal, Backtick, Check, EmptyListArgument}
use Rattle.just_value.specs.Refusal.{FunctionCall, LeftOut, RecursionLimit}

-- why a command produced no text
abbrev pub command_fault_text : Fault → Text
command_fault_text (Code n) = codes "process exited with status code " ++ signed_decimal n
command_fault_text (Message text) = text
command_fault_text NoMemory = no_memory_text

-- The message of a refusal. A refusal that constant evaluation has too has the same message there.
abbrev pub refusal_text : Refusal → Text
refusal_text (Backtick t fault) = codes "backtick failed: " ++ command_fault_text fault
refusal_text (Check parameter message) =
    codes "argument of parameter `" ++ (parameter ++ (codes "` was refused: " ++ message))
refusal_text (EmptyListArgument parameter recipe) =
    codes "parameter `" ++ (parameter ++ (codes "` of recipe `" ++ (recipe ++ codes "` requires at least one element")))
refusal_text (FunctionCall name message) =
    codes "call to function `" ++ (name.lexeme ++ (codes "` failed: " ++ message))
refusal_text (LeftOut name) = codes "function `" ++ (name.lexeme ++ codes "` is left out")
refusal_text (RecursionLimit name) =
    codes "call to function `" ++ (name.lexeme ++ codes "` reached the recursion limit")
refusal_text r = const_eval_text r

-- the token of a refusal; the refusal of an argument has none, since arguments come from the caller
abbrev pub refusal_token : Refusal → Option Token
refusal_token (Backtick t fault) = Some t
refusal_token (Check parameter message) = None
refusal_token (EmptyListArgument parameter recipe) = None
refusal_token (FunctionCall name message) = Some name
refusal_token (LeftOut name) = Some name
refusal_token (RecursionLimit name) = Some name
refusal_token r = Some (const_eval_token r)

-- the message of an error: that of its refusal, or that of `OutOfMemory`
abbrev pub error_text : Option Refusal → Text
error_text (Some r) = refusal_text r
error_text None = no_memory_text

-- the token of an error; `OutOfMemory` has none
abbrev pub error_token : Option Refusal → Option Token
error_token refusal = option_and_then refusal_token refusal

-- the message of a failed check: its own, or that of `OutOfMemory`
abbrev pub check_text : Option Text → Text
check_text (Some message) = message
check_text None = no_memory_text
