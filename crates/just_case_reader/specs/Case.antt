-- The contents of a case, as plain data.
use Rattle.std.specs.Prelude.{ℕ, Bool, List, Option}
use Rattle.just_syntax.specs.Plain.{Text, Token, Assignment, Function}
use Rattle.just_value.specs.Refusal.{Fault}

-- the answer to a command: its output, or a fault
pub data CommandReply : Type 0 where
  Output : Text → CommandReply
  Broken : Fault → CommandReply

-- how a case is evaluated: in a run, before any run, or in two runs, the second in this order
pub data Evaluation : Type 0 where
  Run : Evaluation
  Const : Evaluation
  Blocks : List Token → Evaluation

-- the contents of a case; assignments and functions are sorted by the bytes of their names, dotenv variables by those
-- of their keys
pub record Case : Type 0 where
  pub assignments : List Assignment
  pub evaluation_order : List Token
  pub functions : List Function
  pub overrides : ℕ → Option Text
  -- the referenced variables, if the case lists them
  pub references : Option (ℕ → Bool)
  pub dotenv : List (Text × Text)
  -- commands, each with the text that always answers it
  pub always : List (Text × Text)
  pub replies : List CommandReply
  pub lists : Bool
  pub dry_run : Bool
  pub recursion_limit : ℕ
  pub evaluation : Evaluation
