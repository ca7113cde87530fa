-- Cycles and orders.
use Rattle.std.specs.Prelude.{◌≡◌, List, Some}
use Rattle.just_syntax.specs.Keyed.{value_at}
use Rattle.just_syntax.specs.Lists.{IsIn}
use Rattle.just_syntax.specs.Plain.{Assignment, Function, Token}
use Rattle.just_value.specs.Frames.{Frames, value_in}
use Rattle.just_meaning.specs.Resolved.{HasValue, IsResolved}
use Rattle.just_resolve.specs.Cycle.{IsCycle}
use Rattle.just_resolve.specs.Order.{IsOrder, ordered}

-- each of these assignments is found by its name, as in a table
abbrev pub AreFoundByName : List Assignment → Type 0
AreFoundByName assignments =
    (a : Assignment) → IsIn assignments a → value_at (λ b. b.name.lexeme) a.name.lexeme assignments ≡ Some a

-- no number of an assignment is bound outside
abbrev pub AreUnbound : Frames → List Assignment → Type 0
AreUnbound outer assignments = (a : Assignment) → IsIn assignments a → HasValue (value_in outer) a.number → ⊥

-- if some assignments form a cycle, no order of all makes the module resolved
abbrev pub NoOrderResolvesACycle : Type 0
NoOrderResolvesACycle = (functions : List Function) (assignments : List Assignment) (outer : Frames)
    (names order : List Token) → IsCycle functions assignments names → AreFoundByName assignments
    → AreUnbound outer assignments → IsOrder assignments order
    → IsResolved functions (ordered assignments order) outer → ⊥
