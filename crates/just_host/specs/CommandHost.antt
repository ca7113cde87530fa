-- The answers of a host with an answerer of commands.
use Rattle.std.specs.Prelude.{◌≡◌}
use Rattle.just_host.specs.Question.{Blind, CommandOf, Question, Answer}
use Rattle.just_host.specs.Interaction.{Step}

-- The first part answers a command, and the second any other question. The part that does not answer is unchanged.
abbrev pub Answers : {C H : Type 0} → Step C → Step H → C → H → Question → Blind → Answer → C → H → Type 0
Answers commands others c h q (CommandOf command) answer c' h' = commands c q answer c' × (h' ≡ h)
Answers commands others c h q blind answer c' h' = others h q answer h' × (c' ≡ c)

abbrev pub AnswersByKind : {C H : Type 0} → Step C → Step H → C → H → Question → Answer → C → H → Type 0
AnswersByKind commands others c h q answer c' h' = Answers commands others c h q q.blind answer c' h'
