-- The first faulty item of a list.
use Rattle.std.specs.Prelude.{◌⊎◌, List, [], ◌∷◌, Option, Some, None}
use Rattle.std.specs.List.{AllByRecursion}

-- one of them is faulty, and those before it are sound
abbrev pub IsFirstFaulty : {X : Type 0} → (X → Type 0) → (X → Type 0) → List X → Type 0
IsFirstFaulty sound faulty [] = ⊥
IsFirstFaulty sound faulty (x ∷ xs) = faulty x ⊎ (sound x × IsFirstFaulty sound faulty xs)

-- the result of a search among them: nothing if each is sound, or the fault of the first that is not
abbrev pub Finds : {X F : Type 0} → (X → Type 0) → (X → F → Type 0) → List X → Option F → Type 0
Finds sound faulty xs None = AllByRecursion sound xs
Finds sound faulty xs (Some f) = IsFirstFaulty sound (λ x. faulty x f) xs
