-- Confluence of orders: two orders of one module.
use Rattle.std.specs.Prelude.{◌≡◌, ◌≢◌, ℕ, Bool, true, Contains, List, [], ◌∷◌, Some}
use Rattle.just_syntax.specs.Plain.{Token, Assignment}
use Rattle.just_value.specs.Frames.{Bound, Frames, bound_at, own_frame}
use Rattle.just_value.specs.Refusal.{Refusal}
use Rattle.just_value.specs.Outcome.{Outcome, Gave, Refused, Stopped}
use Rattle.just_host.specs.Interaction.{Event, Path, freely}
use Rattle.just_meaning.specs.Assignments.{assignment_at}
use Rattle.just_meaning.specs.Blocks.{Block, blocks_of}
use Rattle.just_meaning.specs.Module.{Module, run, lexically, IsResolvedModule}
use Rattle.just_soundness.specs.Laws.{AreAnsweredAlike, AreSame}

-- the module in another order, with other references
abbrev pub reordered : Module → List Token → (ℕ → Bool) → Module
reordered m order referenced =
    record m { assignments = record { all = m.assignments.all; order = order; referenced = referenced } }

-- some name of the order is that of a referenced assignment with this number
pub record IsTakenIn (m : Module) (n : ℕ) : Type 0 where
  pub name : Token
  pub assignment : Assignment
  pub named : Contains m.assignments.order name
  pub found : assignment_at m.assignments name.lexeme ≡ Some assignment
  pub referenced : m.assignments.referenced assignment.number ≡ true
  pub number : assignment.number ≡ n

-- How two runs agree in their blocks and in how they end.
pub record Agree (m w : Module) (bs cs : List Block) (o p : Outcome Frames) : Type 0 where
  -- an assignment that both reach, and neither is stopped in, has one value or refusal, by the same questions, frames
  -- aside
  pub blocks : (b c : Block) → Contains bs b → Contains cs c → b.number ≡ c.number → b.outcome ≢ Stopped
      → c.outcome ≢ Stopped → (b.outcome ≡ c.outcome) × AreSame b.events c.events
  -- if one is refused at an assignment that the other reaches, so is the other
  pub refusals : (b c : Block) (r : Refusal) → Contains bs b → Contains cs c → b.number ≡ c.number
      → b.outcome ≡ Refused r → c.outcome ≢ Stopped → p ≡ Refused r
  -- if both finish, a number that both bind has one binding
  pub values : (frames last : Frames) (n : ℕ) (b c : Bound) → o ≡ Gave frames → p ≡ Gave last
      → bound_at n (own_frame frames) ≡ Some b → bound_at n (own_frame last) ≡ Some c → b ≡ c
  -- if one finishes, so does the other, provided it takes nothing else and is not stopped; the first binds all that it
  -- binds
  pub finishes : (frames : Frames) → o ≡ Gave frames → ((n : ℕ) → IsTakenIn w n → IsTakenIn m n) → p ≢ Stopped
      → (last : Frames) × (p ≡ Gave last)
      × ((n : ℕ) (b : Bound) → bound_at n (own_frame last) ≡ Some b → bound_at n (own_frame frames) ≡ Some b)

-- Confluence of orders. Two resolved runs of one module in two orders, or with two sets of references, agree if
-- whatever both ask, frames aside, is answered alike.
abbrev pub OrdersAgree : Type 0
OrdersAgree = (m : Module) (order : List Token) (referenced : ℕ → Bool) (outer : Frames) (es fs : List Event)
    (o p : Outcome Frames)
    → let w = reordered m order referenced in
    IsResolvedModule m outer → IsResolvedModule w outer
    → Path freely (run lexically m ([] ∷ outer) m.assignments.order) es o
    → Path freely (run lexically w ([] ∷ outer) order) fs p → AreAnsweredAlike es fs
    → Agree m w (blocks_of es o) (blocks_of fs p) o p
