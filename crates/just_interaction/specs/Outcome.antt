-- The outcome of a computation.
use Rattle.std.specs.Prelude.{◌≡◌, Option, Some, None}

-- a value, a refusal, or stopped because memory ran out
pub data Outcome (Refusal A : Type 0) : Type 0 where
  Gave : A → Outcome Refusal A
  Refused : Refusal → Outcome Refusal A
  Stopped : Outcome Refusal A

-- the outcome is the expected one, unless it is stopped
abbrev pub UnlessStopped : {R A : Type 0} → Outcome R A → Outcome R A → Type 0
UnlessStopped Stopped wanted = Unit {0}
UnlessStopped (Gave a) wanted = Gave a ≡ wanted
UnlessStopped (Refused r) wanted = Refused r ≡ wanted

-- a refusal, or stopped if there is none
abbrev pub without_value : {R A : Type 0} → Option R → Outcome R A
without_value (Some r) = Refused r
without_value None = Stopped

-- continues with the value; any other outcome is passed on
abbrev pub and_then : {R A B : Type 0} → Outcome R A → (A → Outcome R B) → Outcome R B
and_then (Gave a) go = go a
and_then (Refused r) go = Refused r
and_then Stopped go = Stopped
