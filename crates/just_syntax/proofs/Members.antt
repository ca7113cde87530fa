-- The members of a set of numbers after an insertion.
use Rattle.std.proofs.Common.{◌≡◌, ◌↔◌, ◌⊎◌, inl, inr, ⊎_elim, ℕ, ◌≤◌, Bool, true, false, cond, List, length, Option, Some, None, IsTrue, refl, ap, sym, ◌∙◌}
use Rattle.std.specs.Bool.{Decides}
use Rattle.std.specs.BTreeMap.{is_at}
use Rattle.std.specs.BTreeSet.{BTreeSet, contains, contains_by}
use Rattle.std.specs.Cmp.{unsigned_tied}
use Rattle.std.specs.List.{slice_get}
use Rattle.std.specs.Ordering.{eq_by_cmp, nat_cmp}
use Rattle.std.proofs.lemmas.Bool.{eq-eqb, eqb-true}
use Rattle.std.proofs.lemmas.Option.{slice_get_past}
use Rattle.just_syntax.specs.NumberSet.{flag_or}

pub number_decides : (k n : ℕ) → Decides (eq_by_cmp nat_cmp k n) (k ≡ n)
number_decides k n = ((λ h. eqb-true k n (sym (unsigned_tied k n) ∙ h)), (λ e. unsigned_tied k n ∙ eq-eqb k n e))

pub added : (P : Type 0) (t b x : Bool) → Decides t P → x ≡ cond t true b → (x ≡ true) ↔ (P ⊎ (b ≡ true))
added P true b x d is = ((λ h. inl (d.0 refl)), (λ h. is))
added P false b x d is = ((λ h. inr (sym is ∙ h)), (λ h. ⊎_elim (λ p. absurd (let e : false ≡ true = d.1 p in cc)) (λ k. is ∙ k) h))

-- a number that has no flag is added to the other part
added_beyond : (flag : Option Bool) (k n : ℕ) (old new : Bool) → (k ≡ n → flag ≡ None) → new ≡ cond (eq_by_cmp nat_cmp k n) true old
    → IsTrue (flag_or flag new) ↔ ((k ≡ n) ⊎ IsTrue (flag_or flag old))
added_beyond None k n old new none is = added (k ≡ n) (eq_by_cmp nat_cmp k n) old new (number_decides k n) is
added_beyond (Some flag) k n old new none is =
    ((λ h. inr h), (λ h. ⊎_elim (λ e. absurd (let off : Some flag ≡ None = none e in cc)) (λ j. j) h))

-- the same for all flags
pub number_beyond : (low : List Bool) (old new : BTreeSet ℕ) (k : ℕ) → length low ≤ k
    → ((q : ℕ) → contains nat_cmp new q ≡ cond (is_at (nat_cmp k) q) true (contains nat_cmp old q)) → (n : ℕ)
    → IsTrue (flag_or (slice_get low n) (contains_by (nat_cmp n) new)) ↔ ((k ≡ n) ⊎ IsTrue (flag_or (slice_get low n) (contains_by (nat_cmp n) old)))
number_beyond low old new k beyond updates n =
    added_beyond (slice_get low n) k n (contains_by (nat_cmp n) old) (contains_by (nat_cmp n) new)
    (λ e. ap (slice_get low) (sym e) ∙ slice_get_past low k beyond) (updates n)
