-- What evaluation may reach, as plain data.
use Rattle.std.specs.Prelude.{ℕ, ◌++◌, List, Option, codes}
use Rattle.just_syntax.specs.Plain.{Function, Text, Token}
use Rattle.just_syntax.specs.Occurrences.{CallAt, CommandAt, Occurrence, VariableAt}
use Rattle.just_builtins.specs.declared.function.Function as built_in
use Rattle.just_meaning.specs.Callee as callee
use Rattle.just_meaning.specs.Callee.{Callee, callee}

-- a call of a built-in function, of a function that the file defines, or of a name that stands for neither; a command
-- with its text; a variable with its number, if it has one
pub data PlainMember : Type 0 where
  BuiltIn : Token → built_in.Function → PlainMember
  Call : Token → PlainMember
  Command : Token → Text → PlainMember
  Unknown : Token → PlainMember
  Variable : Token → Option ℕ → PlainMember

-- a call, by what its name stands for
abbrev pub called_member : Callee → Token → PlainMember
called_member (callee.Defined f) t = Call t
called_member (callee.BuiltIn f) t = BuiltIn t f
called_member callee.LeftOut t = Unknown t
called_member callee.Unknown t = Unknown t

-- what occurs in an expression of a file with these functions
abbrev pub member_of : List Function → Occurrence → PlainMember
member_of functions (CommandAt t text) = Command t text
member_of functions (CallAt t n) = called_member (callee functions t.lexeme) t
member_of functions (VariableAt t number) = Variable t number

-- where it occurs
abbrev pub member_token : PlainMember → Token
member_token (BuiltIn t f) = t
member_token (Call t) = t
member_token (Command t text) = t
member_token (Unknown t) = t
member_token (Variable t number) = t

-- what it is, with its text
abbrev pub member_text : PlainMember → Text
member_text (BuiltIn t f) = (codes "built-in function `" ++ t.lexeme) ++ codes "`"
member_text (Call t) = (codes "call of `" ++ t.lexeme) ++ codes "`"
member_text (Command t text) = (codes "command `" ++ text) ++ codes "`"
member_text (Unknown t) = (codes "unknown function `" ++ t.lexeme) ++ codes "`"
member_text (Variable t number) = (codes "variable `" ++ t.lexeme) ++ codes "`"
