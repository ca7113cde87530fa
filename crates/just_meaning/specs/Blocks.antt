-- The blocks of a run's trace: what each assignment that it evaluates does, and how it ends.
use Rattle.std.specs.Prelude.{ℕ, List, [], ◌∷◌, ◌++◌}
use Rattle.just_value.specs.Value.{Value}
use Rattle.just_value.specs.Frames.{Frames}
use Rattle.just_value.specs.Outcome.{Outcome, Gave, Refused, Stopped}
use Rattle.just_host.specs.Interaction.{Event, Noted, Begins, Binds}

-- one assignment that was evaluated: its number, its events, and how it ended
pub record Block : Type 0 where
  pub number : ℕ
  pub events : List Event
  pub outcome : Outcome Value

-- the events up to the next mark
abbrev pub up_to_mark : List Event → List Event
up_to_mark [] = []
up_to_mark (Noted (Begins n) ∷ es) = []
up_to_mark (Noted (Binds n v) ∷ es) = []
up_to_mark (e ∷ es) = e ∷ up_to_mark es

-- how a block that is open where a trace ends does; a finished trace has no such block
abbrev pub at_end : Outcome Frames → Outcome Value
at_end (Gave frames) = Stopped
at_end (Refused r) = Refused r
at_end Stopped = Stopped

-- how the block whose events these are ends: with the value that is bound next, or as the trace does
abbrev pub ending : List Event → Outcome Frames → Outcome Value
ending [] o = at_end o
ending (Noted (Binds n v) ∷ es) o = Gave v
ending (e ∷ es) o = ending es o

-- the blocks of a trace to this outcome, one at each mark of a beginning
abbrev pub blocks_of : List Event → Outcome Frames → List Block
blocks_of [] o = []
blocks_of (Noted (Begins n) ∷ es) o =
    record { number = n; events = up_to_mark es; outcome = ending es o } ∷ blocks_of es o
blocks_of (e ∷ es) o = blocks_of es o

-- the events of blocks, without the marks
abbrev pub events_of : List Block → List Event
events_of [] = []
events_of (b ∷ bs) = b.events ++ events_of bs
