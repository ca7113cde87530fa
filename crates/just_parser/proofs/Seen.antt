-- What holds of plain values.
use Rattle.std.specs.Prelude.{◌≡◌, ◌||◌, Bool, List, [], ◌∷◌, map}
use Rattle.std.specs.List.{list_any}
use Rattle.std.proofs.Common.{ap, refl}

-- what is among plain values
pub any_seen : {X Y : Type 0} (p : Y → Bool) (f : X → Y) (xs : List X) → list_any p (map f xs) ≡ list_any (λ x. p (f x)) xs
any_seen p f [] = refl
any_seen p f (x ∷ xs) = ap (λ b. p (f x) || b) (any_seen p f xs)
