-- A set that is lent has the numbers of the set.
use Rattle.std.proofs.Common.{◌≡◌, ℕ, Option, Some, None, Bor, refl, subst}
use Rattle.std.specs.HashSet.{HashSet}
use Rattle.std.specs.Option.{option_copied}
use Rattle.just_meaning.specs.View.{is_referenced_in}
use Rattle.just_run.specs.Run.{is_referenced_by}

pub referenced_same : {S : Type 0} (lent : Option (Bor (HashSet ℕ S))) (set : Option (HashSet ℕ S)) → option_copied lent ≡ set
    → is_referenced_in lent ≡ is_referenced_by set
referenced_same {S = S} None set e = subst (λ s. is_referenced_in {S = S} None ≡ is_referenced_by s) e refl
referenced_same {S = S} (Some s) set e = subst (λ t. is_referenced_in {S = S} (Some s) ≡ is_referenced_by t) e refl
