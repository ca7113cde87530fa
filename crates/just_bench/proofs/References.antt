-- The variables that a run takes as referenced.
use Rattle.std.proofs.Common.{◌≡◌, ℕ, Option, Some, None, refl, ap, ◌∙◌, option_copied, option_map}
use Rattle.std.specs.Borrow.{Bor}
use Rattle.std.specs.HashSet.{HashSet}
use Rattle.just_bench.specs.Prelude.{is_referenced_in, number_set_view}
use Rattle.just_bench.specs.Module.{referenced_in}

lent : {S : Type 0} (set : Option (Bor (HashSet ℕ S))) → is_referenced_in set ≡ referenced_in (option_map number_set_view (option_copied set))
lent None = refl
lent (Some set) = refl

-- a borrowed set has the same elements as the owned one
pub same_references : {S : Type 0} (set : Option (Bor (HashSet ℕ S))) (owned : Option (HashSet ℕ S)) → option_copied set ≡ owned
    → is_referenced_in set ≡ referenced_in (option_map number_set_view owned)
same_references set owned is = lent set ∙ ap (λ owned. referenced_in (option_map number_set_view owned)) is
