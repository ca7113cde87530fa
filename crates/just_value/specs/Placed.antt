-- Bindings in the order in which they came, and the index of each number's binding.
use Rattle.std.specs.Prelude.{◌≡◌, ℕ, List, [], ◌∷◌, Option, Some, None}
use Rattle.std.specs.List.{AllByRecursion, slice_get}
use Rattle.std.specs.Option.{option_map}
use Rattle.std.specs.Ordering.{nat_cmp}
use Rattle.std.specs.List.Sorted.{IsStrictlySortedBy}
use Rattle.std.specs.Map.{keys_of, values_of}
use Rattle.just_value.specs.declared.binding.Binding.{Binding}
use Rattle.just_value.specs.Rising.{AreRising}

-- an element before others; if there is none, they do not count
abbrev pub before_others : {X : Type 0} → Option X → List X → List X
before_others None others = []
before_others (Some x) others = x ∷ others

-- the elements at some indices, up to the first index that has none
abbrev pub elements_at : {X : Type 0} → List X → List ℕ → List X
elements_at xs [] = []
elements_at xs (i ∷ indices) = before_others (slice_get xs i) (elements_at xs indices)

-- the bindings in ascending order of number: as they are while there are no places
abbrev pub items_in_order : List Binding → List (ℕ × ℕ) → List Binding
items_in_order bindings [] = bindings
items_in_order bindings (place ∷ places) = elements_at bindings (values_of (place ∷ places))

-- the index of a number is that of its binding
abbrev pub IsPlaced : List Binding → ℕ × ℕ → Type 0
IsPlaced bindings place = option_map (λ b. b.number) (slice_get bindings place.1) ≡ Some place.0

-- each number is greater than the one before, and its index is that of its binding
abbrev pub ArePlaced : List Binding → List (ℕ × ℕ) → Type 0
ArePlaced bindings places = IsStrictlySortedBy nat_cmp (keys_of places) × AllByRecursion (IsPlaced bindings) places

-- the bindings are in ascending order, or the index of each number is that of its binding
abbrev pub AreRisingOrPlaced : List Binding → List (ℕ × ℕ) → Type 0
AreRisingOrPlaced bindings [] = AreRising bindings
AreRisingOrPlaced bindings (place ∷ places) = ArePlaced bindings (place ∷ places)
