-- The texts of a list, joined.
use Rattle.std.proofs.Common.{◌≡◌, ℕ, List, [], ◌∷◌, ◌++◌, map, refl, ap, sym}
use Rattle.std.specs.List.{join_by}
use Rattle.std.proofs.lemmas.List.Folds.{flat_map-map}

pub joined_texts : {A : Type 0} (f : A → List ℕ) (separator : List ℕ) (xs : List A) → join_by f separator xs ≡ join_by (λ text. text) separator (map f xs)
joined_texts f separator [] = refl
joined_texts f separator (x ∷ xs) = ap (λ t. f x ++ t) (sym (flat_map-map (λ y. separator ++ y) f xs))
