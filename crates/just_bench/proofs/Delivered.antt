-- Writing a printed answer.
use Rattle.std.proofs.Common.{◌≡◌, ℕ, [], ◌++◌, ap, refl, Option, Some, None, Result, Ok, Err, IfSome, IsErr, sym, subst, ◌∙◌}
use Rattle.std.specs.Io.KnownBytes.{Appends}
use Rattle.just_bench.specs.Prelude.{Added, AppendsFront, Part, Text, Whole, Written, or_one}

pub one_of_error : {E : Type 0} (result : Result ℕ E) → IsErr result → or_one result ≡ 1
one_of_error (Ok status) e = absurd (cc)
one_of_error (Err e) is = refl

-- a case is read, its answer is printed to an empty text, and the text is passed to a writer
module _ (Is : Text → Text → ℕ → Type 0) (bytes case before text given : Text) (status : ℕ) (old new : Option Text) (read : case ≡ bytes) (first : before ≡ [])
    (added : Added before text (λ printed. Is case printed status)) (lent : given ≡ text) where
  answered : Is bytes given status
  answered = subst (λ b. Is b given status) read (subst (λ t. Is case t status) (sym (lent ∙ added.after ∙ ap (λ t. t ++ added.printed) first)) added.is)

  -- the whole text is written
  pub all_written : (remaining : Option Text) → IfSome remaining (λ rest. bytes ≡ rest) → Appends old new given
      → IfSome remaining (λ case. Written old new status (Is case))
  all_written None known whole = tt
  all_written (Some case) known whole = Whole given (subst (λ b. Is b given status) known answered) whole

  -- a prefix of it is written
  pub front_written : (remaining : Option Text) (one : ℕ) → one ≡ 1 → IfSome remaining (λ rest. bytes ≡ rest) → AppendsFront old new given
      → IfSome remaining (λ case. Written old new one (Is case))
  front_written None one is known front = tt
  front_written (Some case) one is known front =
      Part front.front front.rest status is (subst (λ t. Is case t status) front.whole (subst (λ b. Is b given status) known answered)) front.added
