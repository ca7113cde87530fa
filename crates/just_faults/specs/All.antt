-- All faults of a module, in the order of the places that are checked.
use Rattle.std.specs.Prelude.{◌≡◌, ◌⊎◌, List, [], ◌∷◌, ◌++◌, Option, Some, None}
use Rattle.just_syntax.specs.Plain.{Function}
use Rattle.just_value.specs.Frames.{Frames}
use Rattle.just_meaning.specs.Assignments.{Assignments}
use Rattle.just_resolution.specs.Fault.{CheckedPlace, HasFault, IsFaulty, IsKnownAt, IsSound, ModuleFault, places}
use Rattle.just_syntax.specs.Occurrences.{Occurrence}

-- these are the faults of some items, in order: one of each faulty item, and none of a sound one
abbrev pub FindsAll : {X F : Type 0} → (X → Type 0) → (X → F → Type 0) → List X → List F → Type 0
FindsAll sound faulty [] [] = Unit {0}
FindsAll sound faulty [] (f ∷ fs) = ⊥
FindsAll sound faulty (x ∷ xs) [] = sound x × FindsAll sound faulty xs []
FindsAll sound faulty (x ∷ xs) (f ∷ fs) =
    (sound x × FindsAll sound faulty xs (f ∷ fs)) ⊎ (faulty x f × FindsAll sound faulty xs fs)

-- these are the faults of a module: one of each place that has one, in the order of the places
abbrev pub AreFaults : List Function → Assignments → Frames → List ModuleFault → Type 0
AreFaults functions assignments outer fs =
    FindsAll (IsSound functions assignments outer) (IsFaulty functions assignments outer) (places functions assignments)
    fs

-- ---- one after another

-- faults, and one more if there is one
abbrev pub with_some : {F : Type 0} → List F → Option F → List F
with_some fs None = fs
with_some fs (Some f) = fs ++ f ∷ []

-- old faults become new ones when those of some items are added at the end
abbrev pub Adds : {X F : Type 0} → (X → Type 0) → (X → F → Type 0) → List X → List F → List F → Type 0
Adds sound faulty [] old new = old ≡ new
Adds sound faulty (x ∷ xs) old new =
    (sound x × Adds sound faulty xs old new) ⊎ ((f : _) × faulty x f × Adds sound faulty xs (old ++ f ∷ []) new)

-- the same for the faults of places
abbrev pub AddsFaults : List Function → Assignments → Frames → List CheckedPlace → List ModuleFault → List ModuleFault
    → Type 0
AddsFaults functions assignments outer =
    Adds (IsSound functions assignments outer) (IsFaulty functions assignments outer)

-- the same for the faults of occurrences
abbrev pub AddsUnknown : List Function → List Occurrence → List ModuleFault → List ModuleFault → Type 0
AddsUnknown functions = Adds (IsKnownAt functions) (HasFault functions)
