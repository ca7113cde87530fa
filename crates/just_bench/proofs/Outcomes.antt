-- Outcomes without a value.
use Rattle.std.proofs.Common.{◌≡◌, Option, Some, None, refl}
use Rattle.just_bench.specs.Prelude.{Outcome, Refusal, and_then, without_value}

-- there is no value to continue with
pub refused_then : {A B : Type 0} (r : Option Refusal) (go : A → Outcome B) → without_value r ≡ and_then (without_value r) go
refused_then None go = refl
refused_then (Some r) go = refl
