-- The result of a search.
use Rattle.std.specs.Prelude.{◌≡◌, ◌<◌, ◌≤◌, ℕ, List, length, Result, Ok, Err}
use Rattle.std.specs.List.{HoldsAt}
use Rattle.std.specs.List.Sorted.{IsPartitionPoint}
use Rattle.std.specs.declared.cmp.Ordering.{Ordering}
use Rattle.std.specs.declared.cmp.Ordering.TheVariants.{Less, Equal, Greater}

-- the index of an equal element, or the index between the lesser and the greater ones
abbrev pub IsPlace : {X : Type 0} → (X → Ordering) → List X → Result ℕ ℕ → Type 0
IsPlace ord xs (Ok i) = (i < length xs) × HoldsAt (λ x. ord x ≡ Equal) xs i
IsPlace ord xs (Err i) = (i ≤ length xs) × IsPartitionPoint (λ x. ord x ≡ Less) (λ x. ord x ≡ Greater) xs i
