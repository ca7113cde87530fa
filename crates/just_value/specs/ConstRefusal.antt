-- What constant evaluation does not allow.
use Rattle.just_syntax.specs.Plain.{Token}

-- a command, a call of a function, or a variable without a constant value
pub data ConstRefusal : Type 0 where
  Backtick : Token → ConstRefusal
  FunctionCall : Token → ConstRefusal
  Variable : Token → ConstRefusal

-- its token
abbrev pub const_token : ConstRefusal → Token
const_token (Backtick token) = token
const_token (FunctionCall name) = name
const_token (Variable name) = name
