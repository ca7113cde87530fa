-- Why there is no value, apart from running out of memory.
use Rattle.std.specs.Prelude.{ℤ}
use Rattle.just_syntax.specs.Plain.{Text, Token}
use Rattle.just_syntax.specs.StringContext.{StringContext}
use Rattle.just_syntax.specs.declared.list_operator.ListOperator.{ListOperator}
use Rattle.just_value.specs.ConstRefusal.{ConstRefusal}
use Rattle.just_value.specs.Value.{Value}

-- why a command produced no text
pub data Fault : Type 0 where
  Code : ℤ → Fault
  Message : Text → Fault
  NoMemory : Fault

-- A name is given by its token, a parameter and a recipe by the texts of their names.
pub data Refusal : Type 0 where
  Assert : Text → Token → Refusal
  Backtick : Token → Fault → Refusal
  Check : Text → Text → Refusal
  Const : ConstRefusal → Refusal
  -- never occurs in a run, since a run gets settings that are already evaluated
  EmptyInterpreter : Token → Refusal
  EmptyListArgument : Text → Text → Refusal
  FunctionCall : Token → Text → Refusal
  Internal : Text → Token → Refusal
  LeftOut : Token → Refusal
  LeftOutRegex : Token → Refusal
  ListInStringContext : StringContext → Value → Refusal
  ListOperation : Value → ListOperator → Value → Token → Refusal
  RecursionLimit : Token → Refusal
