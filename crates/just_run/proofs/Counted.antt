-- The numbers of words, parameter by parameter.
use Rattle.std.proofs.Common.{◌≡◌, ℕ, ◌+◌, ◌<◌, true, false, List, Option, Some, None, refl, ap, arith, get_or, drop, length, map, option_map, if◌then◌else◌}
use Rattle.just_syntax.specs.Plain.{Parameter}
use Rattle.just_syntax.specs.Prelude.{is_variadic}
use Rattle.just_syntax.proofs.Lists.{rest_from}
use Rattle.just_run.specs.Arguments.{most}

module _ {X : Type 0} (f : X → Parameter) (xs : List X) (i : ℕ) (x : X) (within : i < length xs) (is : x ≡ get_or xs i x) where
  most_next : most (map f (drop i xs)) ≡ (if is_variadic (f x).kind then None else option_map (λ n. 1 + n) (most (map f (drop (i + 1) xs))))
  most_next = ap most (rest_from f xs i x within is)

  pub most_none : is_variadic (f x).kind ≡ true → most (map f (drop i xs)) ≡ None
  most_none variadic = rw variadic at most_next

  pub most_more : is_variadic (f x).kind ≡ false → most (map f (drop i xs)) ≡ option_map (λ n. 1 + n) (most (map f (drop (i + 1) xs)))
  most_more singular = rw singular at most_next

-- a number of parameters before a limit raises it
pub raised_none : (limit : Option ℕ) → option_map (λ n. 0 + n) limit ≡ limit
raised_none None = refl
raised_none (Some n) = ap Some (omega arith)

pub raised_more : (i : ℕ) (limit : Option ℕ) → option_map (λ n. i + n) (option_map (λ n. 1 + n) limit) ≡ option_map (λ n. (i + 1) + n) limit
raised_more i None = refl
raised_more i (Some n) = ap Some (omega arith)
