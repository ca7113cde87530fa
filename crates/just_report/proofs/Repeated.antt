-- Marks that are repeated.
use Rattle.std.proofs.Common.{◌≡◌, ℕ, zero, suc, [], ◌∷◌, ◌++◌, refl, ap}
use Rattle.std.specs.List.{repeat}

pub repeat_last : (n x : ℕ) → repeat n (x ∷ []) ++ x ∷ [] ≡ repeat (suc n) (x ∷ [])
repeat_last zero x = refl
repeat_last (suc n) x = ap (λ ys. x ∷ ys) (repeat_last n x)
