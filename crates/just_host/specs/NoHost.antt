-- The answers of a host that provides nothing.
use Rattle.std.specs.Prelude.{◌≡◌, false, codes}
use Rattle.just_value.specs.Refusal.{Message}
use Rattle.just_host.specs.Question.{Blind, CommandOf, TextOf, ExistsAt, NumberOf, Answer, Failed, Absent, Found}
use Rattle.just_host.specs.Question.{Numbered, UnlessNoMemory}

-- the answer to a command
abbrev pub not_run : Answer
not_run = Failed (Message (codes "commands are not run"))

-- A command gets that fault, or `NoMemory` if there is no memory for its message; there is no text, nothing exists at
-- any path, and each number is 0.
abbrev pub AnswersNothing : Blind → Answer → Type 0
AnswersNothing (CommandOf c) answer = UnlessNoMemory answer not_run
AnswersNothing (TextOf q) answer = answer ≡ Absent
AnswersNothing (ExistsAt path) answer = answer ≡ Found false
AnswersNothing (NumberOf q) answer = answer ≡ Numbered 0
