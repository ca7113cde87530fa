-- What the end of a run says about its blocks.
use Rattle.std.specs.Prelude.{◌≡◌, ◌≢◌, ℕ, Contains, List, [], ◌∷◌, ◌++◌, Some}
use Rattle.just_value.specs.Frames.{Bound, Frames, bound_at, own_frame}
use Rattle.just_value.specs.Refusal.{Refusal}
use Rattle.just_value.specs.Outcome.{Outcome, Gave, Refused, Stopped}
use Rattle.just_host.specs.Interaction.{Event, Path, freely}
use Rattle.just_meaning.specs.Blocks.{Block, blocks_of}
use Rattle.just_meaning.specs.Module.{Module, run, lexically, IsResolvedModule}

-- no block comes after this one
abbrev pub IsLast : List Block → Block → Type 0
IsLast bs b = (front : List Block) × (bs ≡ front ++ (b ∷ []))

-- The end of a run agrees with its blocks.
pub record EndsAsItsBlocks (bs : List Block) (o : Outcome Frames) : Type 0 where
  -- each binding of a finished run has a block with its value
  pub bindings : (frames : Frames) (n : ℕ) (bound : Bound) → o ≡ Gave frames
      → bound_at n (own_frame frames) ≡ Some bound
      → (b : Block) × Contains bs b × (b.number ≡ n) × (b.outcome ≡ Gave bound.value)
  -- each block of a finished run has a value, which is bound
  pub values : (frames : Frames) (b : Block) → o ≡ Gave frames → Contains bs b
      → (bound : Bound) × (bound_at b.number (own_frame frames) ≡ Some bound) × (b.outcome ≡ Gave bound.value)
  -- a run that is not stopped has no stopped block
  pub unstopped : (b : Block) → o ≢ Stopped → Contains bs b → b.outcome ≢ Stopped
  -- a refused block is the last, and the run ends with its refusal
  pub refused : (b : Block) (r : Refusal) → Contains bs b → b.outcome ≡ Refused r → (o ≡ Refused r) × IsLast bs b
  -- a refused run ends with a block that has its refusal
  pub refusal : (r : Refusal) → o ≡ Refused r → (b : Block) × Contains bs b × (b.outcome ≡ Refused r)

-- The end of a run of a resolved module agrees with its blocks.
abbrev pub ResultsHaveBlocks : Type 0
ResultsHaveBlocks = (m : Module) (outer : Frames) (es : List Event) (o : Outcome Frames) → IsResolvedModule m outer
    → Path freely (run lexically m ([] ∷ outer) m.assignments.order) es o → EndsAsItsBlocks (blocks_of es o) o
