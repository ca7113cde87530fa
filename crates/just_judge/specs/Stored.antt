-- The format of a file that stores a case with its answer.
use Rattle.std.specs.Prelude.{◌≡◌, ℕ, ◌<◌, List, ◌+◌, ◌++◌, ◌∷◌, codes, drop, take}

-- the case, a line break, the status line and the answer
abbrev pub stored_file : List ℕ → ℕ → List ℕ → List ℕ
stored_file case status answer = case ++ (codes "\n=> " ++ ((48 + status) ∷ (10 ∷ answer)))

-- a separator begins at this offset of a file
abbrev pub SeparatedAt : List ℕ → ℕ → Type 0
SeparatedAt file at = take 4 (drop at file) ≡ codes "\n=> "

-- no separator begins before this offset of a file
abbrev pub UnseparatedTo : List ℕ → ℕ → Type 0
UnseparatedTo file end = (at : ℕ) → at < end → ¬ (SeparatedAt file at)
