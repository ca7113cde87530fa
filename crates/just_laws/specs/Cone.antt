-- Locality: what a variable reaches, and what an edit elsewhere leaves unchanged.
use Rattle.std.specs.Prelude.{◌≡◌, ◌≢◌, ℕ, Bool, Contains, List, [], ◌∷◌, ◌++◌, nat_eq, Option, Some, None}
use Rattle.std.specs.Prelude.{if◌then◌else◌}
use Rattle.just_syntax.specs.Plain.{Text, Token, Assignment}
use Rattle.just_value.specs.Frames.{Frames, value_in}
use Rattle.just_value.specs.Outcome.{Outcome, Gave, Stopped}
use Rattle.just_host.specs.Interaction.{Event, Path, freely}
use Rattle.just_meaning.specs.Blocks.{Block, blocks_of, events_of}
use Rattle.just_meaning.specs.Module.{Module, run, lexically, IsResolvedModule}
use Rattle.just_meaning.specs.Reaches.{Reaches, Reads, function_at}
use Rattle.just_soundness.specs.Laws.{AreAnsweredAlike, AreSame}
use Rattle.just_laws.specs.Reordered.{IsTakenIn, reordered}

-- the assignment with a number
abbrev pub assignment_numbered : List Assignment → ℕ → Option Assignment
assignment_numbered [] n = None
assignment_numbered (a ∷ xs) n = if nat_eq a.number n then Some a else assignment_numbered xs n

-- if the assignment is taken, it is evaluated: it is neither overridden nor bound outside
pub record IsEvaluated (m : Module) (outer : Frames) (a : Assignment) : Type 0 where
  pub found : assignment_numbered m.assignments.all a.number ≡ Some a
  pub free : m.overrides a.number ≡ None
  pub unbound : value_in outer a.number ≡ None

-- The cone of a variable: itself and, for each member that is evaluated, what its expression reads.
pub data Cone (m : Module) (outer : Frames) (n : ℕ) : ℕ → Type 0 where
  Itself : Cone m outer n n
  ReadBy : {k : ℕ} → (a : Assignment) → Cone m outer n a.number → IsEvaluated m outer a
      → Reads m.program.functions a.value k → Cone m outer n k

-- Two modules have the same assignments and overrides for a variable's cone, and the same functions for the expressions
-- that are evaluated in it.
pub record HaveSameCone (m w : Module) (outer : Frames) (n : ℕ) : Type 0 where
  pub assignments : (k : ℕ) → Cone m outer n k → assignment_numbered m.assignments.all k
      ≡ assignment_numbered w.assignments.all k
  pub overrides : (k : ℕ) → Cone m outer n k → m.overrides k ≡ w.overrides k
  pub functions : (a : Assignment) → Cone m outer n a.number → IsEvaluated m outer a → (name : Text)
      → Reaches m.program.functions a.value name → function_at m.program.functions name
      ≡ function_at w.program.functions name

-- the events of a number's block
abbrev pub events_for : List Block → ℕ → List Event
events_for [] n = []
events_for (b ∷ bs) n = if nat_eq b.number n then b.events else events_for bs n

-- what a run asks for the numbers of these blocks, in their order
abbrev pub events_as : List Block → List Block → List Event
events_as bs [] = []
events_as bs (c ∷ cs) = events_for bs c.number ++ events_as bs cs

-- Locality: an edit outside of what a variable reaches changes neither its value nor its questions.
pub record BlocksAgree : Type 0 where
  -- two resolved modules in one outer scope, with the same fixed context and limit
  pub blocks : (m w : Module) (outer : Frames) (es fs : List Event) (o p : Outcome Frames)
      → m.program.fixed ≡ w.program.fixed → m.limit ≡ w.limit → IsResolvedModule m outer → IsResolvedModule w outer
      → Path freely (run lexically m ([] ∷ outer) m.assignments.order) es o
      → Path freely (run lexically w ([] ∷ outer) w.assignments.order) fs p → AreAnsweredAlike es fs
      → (b c : Block) → Contains (blocks_of es o) b → Contains (blocks_of fs p) c → b.number ≡ c.number
      → HaveSameCone m w outer b.number → b.outcome ≢ Stopped → c.outcome ≢ Stopped
      → (b.outcome ≡ c.outcome) × AreSame b.events c.events
  -- One module in two orders. If one run finishes, and the other takes nothing else and is not stopped, then the other
  -- asks what the first asked for its variables, in its own order.
  pub questions : (m : Module) (order : List Token) (referenced : ℕ → Bool) (outer : Frames) (es fs : List Event)
      (frames : Frames) (p : Outcome Frames)
      → let w = reordered m order referenced in
      IsResolvedModule m outer → IsResolvedModule w outer
      → Path freely (run lexically m ([] ∷ outer) m.assignments.order) es (Gave frames)
      → Path freely (run lexically w ([] ∷ outer) order) fs p → AreAnsweredAlike es fs
      → ((n : ℕ) → IsTakenIn w n → IsTakenIn m n) → p ≢ Stopped
      → AreSame (events_as (blocks_of es (Gave frames)) (blocks_of fs p)) (events_of (blocks_of fs p))
