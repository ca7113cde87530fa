-- Numbers that are not bound.
use Rattle.std.specs.Prelude.{◌≡◌, ◌≤◌, ◌<◌, ℕ, suc, List, [], ◌∷◌, ◌++◌, map}
use Rattle.std.specs.List.{AllByRecursion}
use Rattle.just_syntax.specs.Lists.{IsIn}
use Rattle.just_syntax.specs.Plain.{Assignment, Function}
use Rattle.just_value.specs.Frames.{Frames, value_in}
use Rattle.just_meaning.specs.Resolved.{AreDistinct, HasValue}
use Rattle.just_resolution.specs.Fault.{numbered_assignments, numbered_parameters}

-- n is the first number from `start` on that no frame binds
pub record IsNextFree (outer : Frames) (start n : ℕ) : Type 0 where
  pub from : start ≤ n
  pub free : HasValue (value_in outer) n → ⊥
  pub others : (k : ℕ) → start ≤ k → k < n → HasValue (value_in outer) k

-- these are the first numbers from `start` on that no frame binds, in ascending order
abbrev pub AreFree : Frames → ℕ → List ℕ → Type 0
AreFree outer start [] = Unit {0}
AreFree outer start (n ∷ ns) = IsNextFree outer start n × AreFree outer (suc n) ns

-- the number after the last of these or, if there is none, `start`
abbrev pub number_after : ℕ → List ℕ → ℕ
number_after start [] = start
number_after start (n ∷ ns) = number_after (suc n) ns

-- the same of numbers that were taken one after another, until the next one to be tried was `end`
pub record AreTaken (outer : Frames) (start : ℕ) (ns : List ℕ) (end : ℕ) : Type 0 where
  pub free : AreFree outer start ns
  pub next : end ≡ number_after start ns

-- these numbers are less than n
abbrev pub AreBelow : ℕ → List ℕ → Type 0
AreBelow n ms = AllByRecursion (λ m. m < n) ms

-- the numbers that a module has: those of its assignments, and of the parameters of its functions
abbrev pub numbers_of : List Function → List Assignment → List ℕ
numbers_of functions assignments = map (λ p. p.1) (numbered_assignments assignments ++ numbered_parameters functions)

-- these numbers are distinct, none of them is used, and no frame binds any
pub record AreNew (used : List ℕ) (outer : Frames) (ns : List ℕ) : Type 0 where
  pub distinct : AreDistinct ns
  pub unused : (n : ℕ) → IsIn ns n → IsIn used n → ⊥
  pub unbound : (n : ℕ) → IsIn ns n → HasValue (value_in outer) n → ⊥
