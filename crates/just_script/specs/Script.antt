-- The answers of a script.
use Rattle.std.specs.Prelude.{◌≡◌, ℕ, Bool, false, List, [], ◌∷◌, Option, Some, None, if◌then◌else◌, codes}
use Rattle.std.specs.Str.{bytes_eq}
use Rattle.just_syntax.specs.Plain.{Text}
use Rattle.just_value.specs.Refusal.{Message}
use Rattle.just_host.specs.Question.{Blind, CommandOf, TextOf, ExistsAt, NumberOf, Answer, Replied, Failed, Absent}
use Rattle.just_host.specs.Question.{Found, Numbered, UnlessNoMemory}

-- commands, each with the text that always answers it, and the remaining answers
pub record Script : Type 0 where
  pub always : List (Text × Text)
  pub replies : List Answer
  pub texts : List Answer
  pub exists : List Bool
  pub numbers : List ℕ

-- the text of the last pair with this command, or `found` if there is none
abbrev pub text_after : Option Text → Text → List (Text × Text) → Option Text
text_after found command [] = found
text_after found command (pair ∷ pairs) =
    text_after (if bytes_eq pair.0 command then Some pair.1 else found) command pairs

-- the text of the last pair with this command
abbrev pub text_for : Text → List (Text × Text) → Option Text
text_for command pairs = text_after None command pairs

-- the first answer, or `other` if there is none
abbrev pub first_or : {A : Type 0} → A → List A → A
first_or other [] = other
first_or other (answer ∷ answers) = answer

-- the answers after the first
abbrev pub after_first : {A : Type 0} → List A → List A
after_first [] = []
after_first (answer ∷ answers) = answers

-- The answer is the next reply; if none is left, it is the fault `no reply`, or `NoMemory` if there is no memory for
-- its message.
abbrev pub IsNextReply : List Answer → Answer → Type 0
IsNextReply [] answer = UnlessNoMemory answer (Failed (Message (codes "no reply")))
IsNextReply (reply ∷ replies) answer = answer ≡ reply

-- The same script with other remaining replies.
abbrev pub with_replies : Script → List Answer → Script
with_replies old replies =
    record { always = old.always; replies = replies; texts = old.texts; exists = old.exists; numbers = old.numbers }

-- A command with a fixed text gets that text, or `NoMemory`, and the script is unchanged. Any other command takes the
-- next reply.
abbrev pub AnswersCommand : Option Text → Script → Answer → Script → Type 0
AnswersCommand (Some text) old answer new = UnlessNoMemory answer (Replied text) × (new ≡ old)
AnswersCommand None old answer new = IsNextReply old.replies answer × (new ≡ with_replies old (after_first old.replies))

-- Each other kind of question takes the next answer of its own list, or `Absent`, false or 0 if none is left.
abbrev pub AnswersByScript : Script → Blind → Answer → Script → Type 0
AnswersByScript old (CommandOf c) answer new = AnswersCommand (text_for c.command old.always) old answer new
AnswersByScript old (TextOf q) answer new =
    (answer ≡ first_or Absent old.texts)
    × (new ≡ record {
      always = old.always;
      replies = old.replies;
      texts = after_first old.texts;
      exists = old.exists;
      numbers = old.numbers;
    })
AnswersByScript old (ExistsAt path) answer new =
    (answer ≡ Found (first_or false old.exists))
    × (new ≡ record {
      always = old.always;
      replies = old.replies;
      texts = old.texts;
      exists = after_first old.exists;
      numbers = old.numbers;
    })
AnswersByScript old (NumberOf q) answer new =
    (answer ≡ Numbered (first_or 0 old.numbers))
    × (new ≡ record {
      always = old.always;
      replies = old.replies;
      texts = old.texts;
      exists = old.exists;
      numbers = after_first old.numbers;
    })
