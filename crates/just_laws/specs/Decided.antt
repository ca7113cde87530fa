-- Determinacy: two evaluations from one start first differ in an answer.
use Rattle.std.specs.Prelude.{◌≡◌, ◌≢◌, ◌⊎◌, Bool, List, [], ◌∷◌}
use Rattle.just_syntax.specs.Plain.{Text, Token, Expr, Fragment, Parameter, Recipe}
use Rattle.just_value.specs.Value.{Value}
use Rattle.just_value.specs.Frames.{Frames}
use Rattle.just_value.specs.Outcome.{Outcome, Stopped}
use Rattle.just_host.specs.Interaction.{Event, Asked, Checked, Noted, Path, freely}
use Rattle.just_meaning.specs.Line.{line}
use Rattle.just_meaning.specs.Meaning.{Program, Situation, Deeper, eval}
use Rattle.just_meaning.specs.Module.{Module, Closing, run}
use Rattle.just_meaning.specs.Parameters.{Arguments, parameters}

-- The events are equal to the end, where this holds, or the first difference is another answer to the same question or
-- check.
abbrev pub AgreeUpToAnswers : List Event → List Event → Type 0 → Type 0
AgreeUpToAnswers [] [] end = end
AgreeUpToAnswers (Asked q a ∷ es) (Asked r b ∷ fs) end = (q ≡ r) × ((a ≢ b) ⊎ ((a ≡ b) × AgreeUpToAnswers es fs end))
AgreeUpToAnswers (Checked p v a ∷ es) (Checked q w b ∷ fs) end =
    (p ≡ q) × (v ≡ w) × ((a ≢ b) ⊎ ((a ≡ b) × AgreeUpToAnswers es fs end))
AgreeUpToAnswers (Noted x ∷ es) (Noted y ∷ fs) end = (x ≡ y) × AgreeUpToAnswers es fs end
AgreeUpToAnswers _ _ end = ⊥

-- Determinacy: two evaluations from one start, neither stopped, agree up to answers. They are of an expression, of a
-- line, or of a recipe's attributes and parameters, whatever calls may still do; or of a module's assignments, under
-- either scoping discipline.
pub record AnswersDecide : Type 0 where
  pub expressions : (c : Program) (d : Deeper) (s : Situation) (e : Expr) (es fs : List Event) (o p : Outcome Value)
      → Path freely (eval c d s e) es o → Path freely (eval c d s e) fs p → o ≢ Stopped → p ≢ Stopped
      → AgreeUpToAnswers es fs (o ≡ p)
  pub lines : (c : Program) (d : Deeper) (s : Situation) (continued : Bool) (fragments : List Fragment)
      (es fs : List Event) (o p : Outcome Text)
      → Path freely (line (eval c d s) continued fragments) es o
      → Path freely (line (eval c d s) continued fragments) fs p → o ≢ Stopped → p ≢ Stopped
      → AgreeUpToAnswers es fs (o ≡ p)
  pub parameters : (c : Program) (d : Deeper) (s : Situation) (recipe : Recipe) (ps : List Parameter)
      (arguments : List Value) (es fs : List Event) (o p : Outcome Arguments)
      → Path freely (parameters (eval c d) s recipe ps arguments) es o
      → Path freely (parameters (eval c d) s recipe ps arguments) fs p → o ≢ Stopped → p ≢ Stopped
      → AgreeUpToAnswers es fs (o ≡ p)
  pub runs : (closing : Closing) (m : Module) (frames : Frames) (names : List Token) (es fs : List Event)
      (o p : Outcome Frames)
      → Path freely (run closing m frames names) es o → Path freely (run closing m frames names) fs p → o ≢ Stopped
      → p ≢ Stopped → AgreeUpToAnswers es fs (o ≡ p)
