-- Messages about an unresolved module.
use Rattle.std.specs.Prelude.{◌++◌, codes}
use Rattle.just_syntax.specs.Plain.{Text}

-- about a variable with no number
abbrev pub unresolved_text : Text → Text
unresolved_text name = (codes "attempted to evaluate unresolved variable `" ++ name) ++ codes "`"

-- about a variable with no value
abbrev pub unevaluated_text : Text → Text
unevaluated_text name = (codes "attempted to evaluate unevaluated variable `" ++ name) ++ codes "`"

-- about a call of a name that is no function
abbrev pub unknown_function_text : Text → Text
unknown_function_text name = (codes "unknown function `" ++ name) ++ codes "`"

-- about a call whose number of arguments is not the number of parameters
abbrev pub miscounted_text : Text → Text
miscounted_text name = (codes "function `" ++ name) ++ codes "` called with a wrong number of arguments"

-- about a name in the order that is no assignment's
abbrev pub unknown_assignment_text : Text → Text
unknown_assignment_text name = (codes "unknown assignment `" ++ name) ++ codes "`"

-- about arguments whose number is not that of a recipe's parameters
abbrev pub mismatched_text : Text
mismatched_text = codes "arguments do not match parameter count"
