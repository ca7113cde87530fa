-- Laws of evaluation: non-interference of frames, soundness of lexical scoping, and progress.
use Rattle.std.specs.Prelude.{◌≡◌, ◌≢◌, ℕ, List, [], ◌∷◌}
use Rattle.just_syntax.specs.Plain.{Expr}
use Rattle.just_syntax.specs.Lists.{IsIn}
use Rattle.just_value.specs.Value.{Value, Names}
use Rattle.just_value.specs.Frames.{Frames}
use Rattle.just_value.specs.Outcome.{Outcome, Stopped}
use Rattle.just_host.specs.Interaction.{Event, Asked, Checked, Noted, Path, freely}
use Rattle.just_meaning.specs.Meaning.{Program, Situation, eval}
use Rattle.just_meaning.specs.Closings.{lexical}
use Rattle.just_meaning.specs.Internal.{IsNotInternal}
use Rattle.just_meaning.specs.Module.{Module, run, dynamically, lexically, IsResolvedRun}

-- ---- questions and answers, frames aside

-- questions that are equal, frames aside, have equal answers; equal checks have equal verdicts
abbrev pub AnswersAgree : Event → Event → Type 0
AnswersAgree (Asked q a) (Asked r b) = q.blind ≡ r.blind → a ≡ b
AnswersAgree (Checked p v a) (Checked q w b) = p ≡ q → v ≡ w → a ≡ b
AnswersAgree _ _ = Unit {0}

-- Whatever both ask, frames aside, is answered alike.
abbrev pub AreAnsweredAlike : List Event → List Event → Type 0
AreAnsweredAlike es fs = (e f : Event) → IsIn es e → IsIn fs f → AnswersAgree e f

-- equal events, frames aside
abbrev pub AreSame : List Event → List Event → Type 0
AreSame [] [] = Unit {0}
AreSame (Asked q a ∷ es) (Asked r b ∷ fs) = (q.blind ≡ r.blind) × (a ≡ b) × AreSame es fs
AreSame (Noted x ∷ es) (Noted y ∷ fs) = (x ≡ y) × AreSame es fs
AreSame (Checked p v a ∷ es) (Checked q w b ∷ fs) = (p ≡ q) × (v ≡ w) × (a ≡ b) × AreSame es fs
AreSame _ _ = ⊥

-- a situation with other frames
abbrev pub with_frames : Frames → Frames → Situation → Situation
with_frames shown below s = record {
  names = s.names;
  environment = s.environment;
  recipe = s.recipe;
  is_dependency = s.is_dependency;
  lists = s.lists;
  shown = shown;
  below = below;
}

-- Non-interference of frames. Two evaluations of an expression that differ only in the frames have one outcome and,
-- frames aside, the same events, if neither is stopped and both are answered alike.
abbrev pub FramesDoNotMatter : Type 0
FramesDoNotMatter = (c : Program) (base : Names) (calls : ℕ) (s : Situation) (shown below : Frames) (e : Expr)
    (es fs : List Event) (o p : Outcome Value)
    → Path freely (eval c (lexical c base calls) s e) es o
    → Path freely (eval c (lexical c base calls) (with_frames shown below s) e) fs p → o ≢ Stopped → p ≢ Stopped
    → AreAnsweredAlike es fs → (o ≡ p) × AreSame es fs

-- ---- runs of resolved modules, whatever the expressions of overridden assignments read

-- Soundness of lexical scoping: a trace of a run under dynamic scope is one of the run under lexical scope.
abbrev pub PendingCallsDoNotMatter : Type 0
PendingCallsDoNotMatter = (m : Module) (outer : Frames) (es : List Event) (o : Outcome Frames)
    → IsResolvedRun m outer → Path freely (run dynamically m ([] ∷ outer) m.assignments.order) es o
    → Path freely (run lexically m ([] ∷ outer) m.assignments.order) es o

-- Progress: a run meets none of the refusals that only an unresolved module meets.
abbrev pub ResolvedIsNeverInternal : Type 0
ResolvedIsNeverInternal = (m : Module) (outer : Frames) (es : List Event) (o : Outcome Frames)
    → IsResolvedRun m outer → Path freely (run lexically m ([] ∷ outer) m.assignments.order) es o → IsNotInternal o
