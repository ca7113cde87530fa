-- The items of an iterable argument.
use Rattle.std.specs.Prelude.{List, Option}
use Rattle.std.specs.Iterator.{Count, Drains, IsFinite}

-- each iterator over it ends
abbrev pub Ends : {X S : Type 0} → (X → S → Type 0) → (S → Type 0) → (S → Count) → X → Type 0
Ends makes can_next remaining x = (s : _) → makes x s → can_next s × IsFinite (remaining s)

-- some iterator over it gives these items, and then ends
abbrev pub GivesItems : {X S A : Type 0} → (X → S → Type 0) → (S → Option A → S → Type 0) → X → List A → Type 0
GivesItems makes next x items = (s : _) × makes x s × Drains next s items
