-- Values that frames bind.
use Rattle.std.proofs.Common.{◌≡◌, ℕ, [], ◌∷◌, Option, Some, None, refl, sym, ap, ◌∙◌, option_map}
use Rattle.std.specs.Option.{option_or}
use Rattle.just_value.specs.Prelude.{Bound, bound_at, innermost, value_in}
use Rattle.just_value.specs.Frames.{Frames, value_of}

value_or : (a b : Option Bound) → value_of (option_or a b) ≡ option_or (value_of a) (value_of b)
value_or None b = refl
value_or (Some x) b = refl

-- the value of the innermost binding
pub value_innermost : (n : ℕ) (frames : Frames) → value_of (innermost n frames) ≡ value_in frames n
value_innermost n [] = refl
value_innermost n (frame ∷ outer) = value_or (bound_at n frame) (innermost n outer) ∙ ap (option_or (value_of (bound_at n frame))) (value_innermost n outer)

pub value_found : {X : Type 0} (seen : X → Bound) (found : Option X) (x : X) (n : ℕ) (frames : Frames) → option_map seen found ≡ innermost n frames
    → found ≡ Some x → Some (seen x).value ≡ value_in frames n
value_found seen found x n frames e is = ap (λ o. value_of (option_map seen o)) (sym is) ∙ ap value_of e ∙ value_innermost n frames

pub value_missing : {X : Type 0} (seen : X → Bound) (found : Option X) (n : ℕ) (frames : Frames) → option_map seen found ≡ innermost n frames → found ≡ None
    → None ≡ value_in frames n
value_missing seen found n frames e is = ap (λ o. value_of (option_map seen o)) (sym is) ∙ ap value_of e ∙ value_innermost n frames
