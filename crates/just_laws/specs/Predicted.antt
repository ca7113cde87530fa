-- Soundness of constant evaluation: what a const stage finds, every run confirms.
use Rattle.std.specs.Prelude.{◌≡◌, ◌≢◌, ◌⊎◌, ℕ, Bool, true, false, ◌&&◌, ◌||◌}
use Rattle.std.specs.Prelude.{Contains, List, [], ◌∷◌, ◌++◌, nat_eq, Some}
use Rattle.just_syntax.specs.Plain.{Token}
use Rattle.just_value.specs.Value.{Value}
use Rattle.just_value.specs.Frames.{Bound, Frames, bound_at, own_frame, value_in}
use Rattle.just_value.specs.Refusal.{Refusal, Const}
use Rattle.just_value.specs.Outcome.{Outcome, Gave, Refused, Stopped}
use Rattle.just_host.specs.Interaction.{Note, Read, Entered, Command, Begins, Binds, Event, Noted, Path, freely}
use Rattle.just_meaning.specs.Blocks.{Block, blocks_of}
use Rattle.just_meaning.specs.Module.{Module, run, lexically, IsResolvedModule}
use Rattle.just_meaning.specs.Resolved.{IsResolvedConst}
use Rattle.just_meaning.specs.Stage.{Constants, StageState, Found, at_start, stage, stage_found}

-- what the const rules refuse: a call, a command, or the reading of an open variable
abbrev pub is_shut : (ℕ → Bool) → Note → Bool
is_shut is_open (Read t n) = is_open n
is_shut is_open (Entered t) = true
is_shut is_open (Command t) = true
is_shut is_open (Begins n) = false
is_shut is_open (Binds n v) = false

-- one of these is among the events
abbrev pub ReachShut : (ℕ → Bool) → List Event → Type 0
ReachShut is_open [] = ⊥
ReachShut is_open (Noted x ∷ es) = (is_shut is_open x ≡ true) ⊎ ReachShut is_open es
ReachShut is_open (_ ∷ es) = ReachShut is_open es

-- none of these is among the events, and nothing is asked or checked
abbrev pub AreConstant : (ℕ → Bool) → List Event → Type 0
AreConstant is_open [] = Unit {0}
AreConstant is_open (Noted x ∷ es) = (is_shut is_open x ≡ false) × AreConstant is_open es
AreConstant is_open _ = ⊥

-- With these open numbers, what a stage finds for an assignment foretells its block in a run. A settled assignment has
-- that value, an open one reaches something that the const rules refuse, and a refused one has the same refusal.
abbrev pub Predicts : (ℕ → Bool) → Outcome Value → Block → Type 0
Predicts is_open (Gave v) b = (b.outcome ≡ Gave v) × AreConstant is_open b.events
Predicts is_open (Refused (Const c)) b = ReachShut is_open b.events
Predicts is_open (Refused r) b = (b.outcome ≡ Refused r) × AreConstant is_open b.events
Predicts is_open Stopped b = Unit {0}

abbrev pub is_opened : Outcome Value → Bool
is_opened (Refused (Const c)) = true
is_opened _ = false

-- the numbers that the stage found to be open
abbrev pub is_found_open : List Found → ℕ → Bool
is_found_open [] n = false
is_found_open (f ∷ fs) n = (is_opened f.outcome && nat_eq n f.number) || is_found_open fs n

-- The standing at the end is what the stage found. The open numbers are those found to be open, each binding in its own
-- frame has the value found for its number, and each value found is bound there.
pub record IsWhatWasFound (fs : List Found) (s : StageState) : Type 0 where
  pub opens : (n : ℕ) → s.is_open n ≡ is_found_open fs n
  pub binds : (n : ℕ) (b : Bound) → bound_at n (own_frame s.frames) ≡ Some b → (f : Found) × Contains fs f
      × (f.number ≡ n) × (f.outcome ≡ Gave b.value)
  pub settles : (f : Found) (v : Value) → Contains fs f → f.outcome ≡ Gave v
      → (b : Bound) × (bound_at f.number (own_frame s.frames) ≡ Some b) × (b.value ≡ v)

-- the outcome of the const stage over all assignments, and what it finds
abbrev pub whole_stage : Constants → Bool → Frames → Outcome StageState
whole_stage m lists outer = stage m (at_start lists outer) m.assignments.order

abbrev pub whole_found : Constants → Bool → Frames → List Found
whole_found m lists outer = stage_found m (at_start lists outer) m.assignments.order

-- A const stage and a run have the same assignments and overrides, the same lists flag, and outer frames with the same
-- values. Their orders, references, functions and all else are free.
pub record AreOfOneModule (m : Constants) (lists : Bool) (outer : Frames) (n : Module) (others : Frames) : Type 0 where
  pub assignments : m.assignments.all ≡ n.assignments.all
  pub overrides : (k : ℕ) → m.overrides k ≡ n.overrides k
  pub same_lists : lists ≡ n.program.fixed.settings.lists
  pub values : (k : ℕ) → value_in outer k ≡ value_in others k

-- Soundness of constant evaluation. If both are resolved, what the stage over the first names of its order finds for an
-- assignment foretells its block in a run that reaches it and is not stopped in it. The standing of a stage that
-- finishes is what it found, and the refusal of any other is one that it found.
pub record ConstAgrees : Type 0 where
  pub states : (m : Constants) (lists : Bool) (outer : Frames) (s : StageState) → whole_stage m lists outer ≡ Gave s
      → IsWhatWasFound (whole_found m lists outer) s
  pub refusals : (m : Constants) (lists : Bool) (outer : Frames) (r : Refusal) → IsResolvedConst m.assignments outer
      → whole_stage m lists outer ≡ Refused r → (f : Found) × Contains (whole_found m lists outer) f
      × (f.outcome ≡ Refused r)
  pub blocks : (m : Constants) (lists : Bool) (outer : Frames) (n : Module) (others : Frames) (names more : List Token)
      (es : List Event) (p : Outcome Frames)
      → let fs = stage_found m (at_start lists outer) names in
      m.assignments.order ≡ names ++ more → AreOfOneModule m lists outer n others → IsResolvedConst m.assignments outer
      → IsResolvedModule n others → Path freely (run lexically n ([] ∷ others) n.assignments.order) es p
      → (f : Found) (b : Block) → Contains fs f → Contains (blocks_of es p) b → f.number ≡ b.number
      → b.outcome ≢ Stopped → Predicts (is_found_open fs) f.outcome b
