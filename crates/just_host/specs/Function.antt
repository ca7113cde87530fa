-- The context of a call of a built-in function, without the visible frames.
use Rattle.std.specs.Prelude.{Bool, List, Option}
use Rattle.just_syntax.specs.Plain.{Text, Token}
use Rattle.just_host.specs.Fixed.{Fixed}

-- A recipe's environment, the fixed context of the run, whether the recipe runs as a dependency, the name that the
-- function was called by, and the recipe's name.
pub record Context : Type 0 where
  pub environment : List (Text × Text)
  pub fixed : Fixed
  pub is_dependency : Bool
  pub name : Token
  pub recipe : Option Text
