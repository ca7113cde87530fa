-- Distinct numbers.
use Rattle.std.proofs.Common.{ℕ, List, [], ◌∷◌, ◌++◌}
use Rattle.just_syntax.proofs.Lists.{in_first}
use Rattle.just_meaning.specs.Resolved.{AreDistinct}

-- the front of distinct numbers is distinct
pub distinct_front : (xs ys : List ℕ) → AreDistinct (xs ++ ys) → AreDistinct xs
distinct_front [] ys d = tt
distinct_front (x ∷ xs) ys d = ((λ one. d.0 (in_first xs ys x one)), distinct_front xs ys d.1)
