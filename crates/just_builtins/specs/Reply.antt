-- Replies of built-in functions, as plain data.
use Rattle.std.specs.Prelude.{[], ◌∷◌}
use Rattle.just_syntax.specs.Plain.{Text}
use Rattle.just_value.specs.Value.{Value}
use Rattle.just_host.specs.Question.{Blind, Answer}

-- A value; a message of the function; a question, with the reply for each answer; or a stop, because memory ran out. It
-- shows no frames.
pub data FunctionReply : Type 0 where
  Answers : Value → FunctionReply
  Fails : Text → FunctionReply
  Asks : Blind → (Answer → FunctionReply) → FunctionReply
  Stops : FunctionReply

-- the reply of one text
abbrev pub says : Text → FunctionReply
says text = Answers (text ∷ [])
