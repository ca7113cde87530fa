-- Readers that differ only in the functions scanned, and what may be read besides what was taken.
use Rattle.std.proofs.Common.{◌≡◌, ◌↔◌, ◌⊎◌, inl, inr, ⊎_elim, ℕ, Bool, false, List, map, Bor, refl, ap, sym, ◌∙◌, subst, IsTrue}
use Rattle.just_resolution.specs.Prelude.{Function, HasValue, IsSameReader, frames_view, function_view, is_number_taken, is_readable, value_in}
use Rattle.just_syntax.specs.declared.function_definition.FunctionDefinition.{FunctionDefinition}
use Rattle.just_value.specs.declared.scope.Scope.{Scope}
use Rattle.just_resolution.specs.declared.here.Reader.{Reader}
use Rattle.just_resolution.specs.declared.readable.Readable.{Readable}
use Rattle.just_resolution.proofs.Ordering.{readable_if}

pub same_back : (old new : Reader) → IsSameReader old new → IsSameReader new old
same_back old new same = record { functions = sym same.functions; here = sym same.here; bodies = sym same.bodies }

pub same_on : (first old new : Reader) → IsSameReader first old → IsSameReader old new → IsSameReader first new
same_on first old new before same =
    record { functions = same.functions ∙ before.functions; here = same.here ∙ before.here; bodies = same.bodies ∙ before.bodies }

-- what holds of what one reader may read holds of the other's
pub alike : (P : List Function → (ℕ → Bool) → (ℕ → Bool) → Type 0) (old new : Reader) → IsSameReader old new →
    P (map function_view old.functions.now) (is_readable old.here) (is_readable old.bodies)
    → P (map function_view new.functions.now) (is_readable new.here) (is_readable new.bodies)
alike P old new same h =
    subst (λ (fs : Bor (List FunctionDefinition)). P (map function_view fs.now) (is_readable new.here) (is_readable new.bodies)) (sym same.functions)
    (subst (λ r. P (map function_view old.functions.now) (is_readable r) (is_readable new.bodies)) (sym same.here)
    (subst (λ r. P (map function_view old.functions.now) (is_readable old.here) (is_readable r)) (sym same.bodies) h))

-- the same in the other direction
pub alike_back : (P : List Function → (ℕ → Bool) → (ℕ → Bool) → Type 0) (old new : Reader) → IsSameReader old new →
    P (map function_view new.functions.now) (is_readable new.here) (is_readable new.bodies)
    → P (map function_view old.functions.now) (is_readable old.here) (is_readable old.bodies)
alike_back P old new same h = alike P new old (same_back old new same) h

-- if nothing is taken, what is bound may be read
pub bound_alone : (r : Readable) (scope : Bor Scope) → ((n : ℕ) → is_number_taken r n ≡ false) → r.outer ≡ scope → (n : ℕ) → IsTrue (is_readable r n)
    ↔ HasValue (value_in (frames_view scope.now)) n
bound_alone r scope none is n =
    let readable = readable_if r (frames_view scope.now) (ap (λ (s : Bor Scope). frames_view s.now) is) n in (
      (λ h. ⊎_elim (λ k. absurd (let off = none n in cc)) (λ k. k) (readable.0 h)),
      (λ k. readable.1 (inr k)),
    )

-- one more number is taken
pub grown : (old new : Readable) (k : ℕ) → new.outer ≡ old.outer → ((n : ℕ) → IsTrue (is_number_taken new n) ↔ (IsTrue (is_number_taken old n) ⊎ (k ≡ n)))
    → (n : ℕ)
    → IsTrue (is_readable new n) ↔ (IsTrue (is_readable old n) ⊎ (k ≡ n))
grown old new k same taken n =
    let was = readable_if old (frames_view old.outer.now) refl n in
    let is = readable_if new (frames_view old.outer.now) (ap (λ (o : Bor Scope). frames_view o.now) same) n in (
      (λ h. ⊎_elim (λ t. ⊎_elim (λ o. inl (was.1 (inl o))) (λ e. inr e) ((taken n).0 t)) (λ v. inl (was.1 (inr v))) (is.0 h)),
      (λ h. ⊎_elim (λ o. ⊎_elim (λ t. is.1 (inl ((taken n).1 (inl t)))) (λ v. is.1 (inr v)) (was.0 o)) (λ e. is.1 (inl ((taken n).1 (inr e)))) h),
    )
