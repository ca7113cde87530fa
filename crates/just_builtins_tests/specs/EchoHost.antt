-- How a host answers that answers commands alone.
use Rattle.just_host.specs.NoHost.{AnswersNothing}
use Rattle.just_host.specs.Question.{Blind, CommandOf, Answer, Replied, UnlessNoMemory}

-- a command gets its own text, and no other question has an answer
abbrev pub Echoes : Blind → Answer → Type 0
Echoes (CommandOf c) answer = UnlessNoMemory answer (Replied c.command)
Echoes q answer = AnswersNothing q answer
