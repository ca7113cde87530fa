-- Hosts that fail from some question on.
use Rattle.std.specs.Prelude.{◌≡◌, ℕ, zero, suc, codes}
use Rattle.just_value.specs.Refusal.{Message, NoMemory}
use Rattle.just_host.specs.Question.{Question, Answer, Blind, CommandOf, TextOf, ExistsAt, NumberOf, Failed}
use Rattle.just_host.specs.Question.{UnlessNoMemory}
use Rattle.just_host.specs.Interaction.{Step}
use Rattle.just_script.specs.declared.fail_at.How.{How}
use Rattle.just_script.specs.declared.fail_at.How.TheVariants.{Fault, Memory}

-- another host, how many questions are still passed on to it, and how it fails afterwards
pub record Failing (H : Type 0) : Type 0 where
  pub host : H
  pub left : ℕ
  pub how : How

-- the answer to a command or a text that reports the fault
abbrev pub broken : Answer
broken = Failed (Message (codes "broken"))

-- A command or a text gets the fault, or `NoMemory` if there is no memory for its message, and the host is not asked.
-- Questions that cannot fail by a fault are passed on.
abbrev pub Faults : {S : Type 0} → Step S → S → Question → Answer → S → Blind → Type 0
Faults step old question answer new (CommandOf c) = UnlessNoMemory answer broken × (new ≡ old)
Faults step old question answer new (TextOf q) = UnlessNoMemory answer broken × (new ≡ old)
Faults step old question answer new (ExistsAt path) = step old question answer new
Faults step old question answer new (NumberOf q) = step old question answer new

abbrev pub Fails : {S : Type 0} → Step S → How → S → Question → Answer → S → Type 0
Fails step Fault old question answer new = Faults step old question answer new question.blind
Fails step Memory old question answer new = (answer ≡ Failed NoMemory) × (new ≡ old)

-- While questions are left to pass on, the host makes its transition, and one fewer is left; afterwards it fails.
abbrev pub PassesOr : {S : Type 0} → Step S → ℕ → How → S → Question → Answer → S → ℕ → Type 0
PassesOr step (suc n) how old question answer new left = step old question answer new × (left ≡ n)
PassesOr step zero how old question answer new left = Fails step how old question answer new × (left ≡ 0)

abbrev pub PassesOrFails : {S : Type 0} → Step S → Failing S → Question → Answer → Failing S → Type 0
PassesOrFails step old question answer new =
    PassesOr step old.left old.how old.host question answer new.host new.left × (new.how ≡ old.how)
