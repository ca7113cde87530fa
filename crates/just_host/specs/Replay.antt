-- The answers of a host that answers from a list.
use Rattle.std.specs.Prelude.{◌≡◌, ◌++◌, ℕ, Bool, true, false, List, [], ◌∷◌, Option, Some, None, map, codes}
use Rattle.std.specs.Vec.Iter.{into_iter_items}
use Rattle.just_value.specs.Refusal.{Message}
use Rattle.just_host.specs.Printed.{printed_question}
use Rattle.just_host.specs.Question.{Blind, CommandOf, TextOf, ExistsAt, NumberOf, Answer, Failed, Found, Numbered}
use Rattle.just_host.specs.Question.{UnlessNoMemory}
use Rattle.just_host.specs.View.{replied, text_replied}
use Rattle.just_host.specs.declared.replay_host.ReplayHost.{ReplayHost}
use Rattle.just_host.specs.declared.replay_host.Reply as declared
use Rattle.just_host.specs.declared.replay_host.Reply.TheVariants as replies

-- an answer, with the kind of question that it answers
pub data Reply : Type 0 where
  ForCommand : Answer → Reply
  ForText : Answer → Reply
  ForExistence : Bool → Reply
  ForNumber : ℕ → Reply

-- the replies that are left, and whether some question had none of its kind
pub record Replay : Type 0 where
  pub replies : List Reply
  pub has_missed : Bool

abbrev pub reply_view : declared.Reply → Reply
reply_view (replies.Command reply) = ForCommand (replied reply)
reply_view (replies.Text answer) = ForText (text_replied answer)
reply_view (replies.Exists there) = ForExistence there
reply_view (replies.Number n) = ForNumber n

abbrev pub replay_view : ReplayHost → Replay
replay_view host = record { replies = map reply_view (into_iter_items host.replies); has_missed = host.has_missed }

-- the answer to a question by a reply, if it is of its kind
abbrev pub answer_by : Blind → Reply → Option Answer
answer_by (CommandOf c) (ForCommand answer) = Some answer
answer_by (TextOf q) (ForText answer) = Some answer
answer_by (ExistsAt path) (ForExistence there) = Some (Found there)
answer_by (NumberOf q) (ForNumber n) = Some (Numbered n)
answer_by q reply = None

-- the answer by the next reply, if there is one
abbrev pub answer_next : Blind → List Reply → Option Answer
answer_next q [] = None
answer_next q (reply ∷ replies) = answer_by q reply

-- the replies after the next
abbrev pub after_next : List Reply → List Reply
after_next [] = []
after_next (reply ∷ replies) = replies

-- what is said where there is no answer
abbrev pub no_answer : Blind → Answer
no_answer (ExistsAt path) = Found false
no_answer (NumberOf q) = Numbered 0
no_answer q = Failed (Message (codes "no answer to " ++ printed_question q))

-- a question with its answer, or one without
abbrev pub IsAnswered : Option Answer → Blind → Answer → Bool → Bool → Type 0
IsAnswered (Some wanted) q answer missed missed' = (answer ≡ wanted) × (missed' ≡ missed)
IsAnswered None q answer missed missed' = UnlessNoMemory answer (no_answer q) × (missed' ≡ true)

-- Each question takes the next reply. Without one of its kind it has no answer, which the host remembers.
abbrev pub AnswersNext : Replay → Blind → Answer → Replay → Type 0
AnswersNext old q answer new =
    IsAnswered (answer_next q old.replies) q answer old.has_missed new.has_missed
    × (new.replies ≡ after_next old.replies)
