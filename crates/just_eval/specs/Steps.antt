-- Steps of a run, as plain data.
use Rattle.std.specs.Prelude.{◌≡◌, List, [], ◌∷◌, ◌++◌}
use Rattle.just_syntax.specs.Plain.{Token}
use Rattle.just_value.specs.Frames.{Frames}
use Rattle.just_value.specs.Outcome.{Gave}
use Rattle.just_value.specs.View.{frames_view}
use Rattle.just_host.specs.Interaction.{Event, Path, freely}
use Rattle.just_meaning.specs.Module.{Closing, Module, run, lexically}
use Rattle.just_meaning.specs.View.{module_view}
use Rattle.just_eval.specs.declared.steps.Steps.{Steps}

-- the inputs of the run
abbrev pub module_of : Steps → Module
module_of s = module_view s.context s.references

-- the frames around it
abbrev pub outer_of : Steps → Frames
outer_of s = frames_view s.context.scope.now

-- its frames so far
abbrev pub frames_of : Steps → Frames
frames_of s = frames_view s.scope

-- Some run of these names, from an empty frame on the outer ones, finds these frames.
pub record ReachedFrames (closing : Closing) (m : Module) (outer : Frames) (done : List Token)
    (frames : Frames) : Type 0 where
  pub events : List Event
  pub path : Path freely (run closing m ([] ∷ outer) done) events (Gave frames)

-- The name is the next one of the order, after a run of those before it that finds these frames.
pub record IsNext (m : Module) (outer : Frames) (done : List Token) (t : Token) (frames : Frames) : Type 0 where
  pub left : List Token
  pub order : m.assignments.order ≡ done ++ t ∷ left
  pub reached : ReachedFrames lexically m outer done frames
