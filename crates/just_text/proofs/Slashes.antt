-- Two paths joined by `std::path`.
use Rattle.std.proofs.Common.{◌≡◌, ℕ, ◌==◌, Bool, true, false, cond, List, [], ◌∷◌, refl}
use Rattle.std.specs.Path.{path_join, slash}
use Rattle.just_text.specs.Prelude.{joined_paths}

pub joined_is : (base path : List ℕ) → path_join base path ≡ joined_paths base path
unfolding path_join
joined_is base [] = refl
joined_is base (b ∷ bs) = refl

same_either : (t : Bool) (a : List ℕ) → cond t a a ≡ a
same_either true a = refl
same_either false a = refl

-- a path joined to the empty one
pub joined_to_nothing : (path : List ℕ) → path_join [] path ≡ path
unfolding path_join
joined_to_nothing [] = refl
joined_to_nothing (b ∷ bs) = same_either (b == slash) (b ∷ bs)
