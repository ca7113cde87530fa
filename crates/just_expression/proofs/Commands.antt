-- The runs of commands.
use Rattle.std.proofs.Common.{◌≡◌, true, false, List, [], ◌∷◌, ◌++◌, refl, inl, inr, None, subst}
use Rattle.just_expression.specs.Prelude.{Behaves, Frames, Gave, Outcome, Refused, Step, Stopped, Text, Token, UnlessStopped, Value, command_value, faulted}
use Rattle.just_expression.specs.Prelude.{unchecked}
use Rattle.just_expression.specs.Prelude.{freely}
use Rattle.just_value.specs.Refusal.{Fault, Code, Message, NoMemory}
use Rattle.just_host.specs.Fixed.{Fixed}
use Rattle.just_host.specs.Question.{Answer, Failed, command_question}
use Rattle.just_host.specs.Interaction.{AsksOnce}
use Rattle.just_interaction.proofs.Paths.{runs_ask, runs_done, runs_else, runs_stopped, runs_then}
use Rattle.just_meaning.specs.Meaning.{answered}

module _ {S : Type 0} {step : Step S} (f : Fixed) (environment : List (Text × Text)) (shown : Frames) (text : Text) (t : Token) where
  -- in a dry run
  pub written_dry : {h : S} (o : Outcome Value) → f.config.dry_run ≡ true → UnlessStopped o (Gave (((96 ∷ text) ++ 96 ∷ []) ∷ []))
      → Behaves freely step unchecked h (command_value f environment shown text t) o h
  written_dry o dry is = runs_then _ _ _ dry (runs_done _ o is)

  -- a question that is asked once, or not at all if memory runs out before
  pub written_asked : {old new : S} (a : Answer) (o : Outcome Value) → f.config.dry_run ≡ false
      → AsksOnce step old (command_question f environment shown text None) a new → UnlessStopped o (answered t a) → (a ≡ Failed NoMemory → o ≡ Stopped)
      → Behaves freely step unchecked old (command_value f environment shown text t) o new
  written_asked a o dry (inl taken) is wanting = runs_else _ _ _ dry (runs_ask _ _ a taken (runs_done _ o is))
  written_asked {old = old} a o dry (inr unasked) is wanting = rw (← unasked.1, wanting unasked.0) (runs_stopped _)

pub without_memory : (t : Token) (f : Fault) → Failed f ≡ Failed NoMemory → faulted t f ≡ Stopped
without_memory t (Code n) e = absurd (cc)
without_memory t (Message text) e = absurd (cc)
without_memory t NoMemory e = refl

-- equal outcomes agree, unless stopped
pub itself : {A : Type 0} (o w : Outcome A) → o ≡ w → UnlessStopped o w
itself o w e = subst (UnlessStopped o) e (own o)
  where
    own : {A : Type 0} (o : Outcome A) → UnlessStopped o o
    own (Gave a) = refl
    own (Refused r) = refl
    own Stopped = tt
