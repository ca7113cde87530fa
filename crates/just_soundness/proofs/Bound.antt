-- What a frame with one more binding binds.
use Rattle.std.proofs.Common.{◌≡◌, ◌≢◌, ◌⊎◌, ⊎_elim, inl, inr, ℕ, Bool, true, false, cond, Some, refl, sym, ap, ◌∙◌, subst, arith}
use Rattle.std.specs.Ordering.{nat_cmp}
use Rattle.std.proofs.lemmas.Bool.Decides.{nat_tests}
use Rattle.std.specs.BTreeMap.{is_at}
use Rattle.std.specs.Option.{option_or}
use Rattle.std.proofs.lemmas.Grind.{common_steps}
use Rattle.just_value.proofs.Bound.{found_insert, number_at}
use Rattle.just_value.proofs.Values.{value_innermost}
use Rattle.just_value.specs.Value.{Names}
use Rattle.just_value.specs.Frames.{Bound, Frame, Frames, bound_at, innermost, with_bound, value_in, value_of, over}
use Rattle.just_meaning.specs.Resolved.{HasValue}

at_differs : (n m : ℕ) → is_at (nat_cmp n) m ≡ false → n ≢ m
at_differs n m h = λ same. let self : is_at (nat_cmp n) n ≡ false =
    subst (λ k. is_at (nat_cmp n) k ≡ false) (sym same) h in grind (arith, nat_tests, common_steps)

-- after a number is bound, a frame has the new binding at that number and the old ones elsewhere
pub bound_put : (frame : Frame) (b : Bound) (n : ℕ) → ((b.number ≡ n) × (bound_at n (with_bound frame b) ≡ Some b))
    ⊎ ((b.number ≢ n) × (bound_at n (with_bound frame b) ≡ bound_at n frame))
bound_put frame b n = by (is_at (nat_cmp n) b.number) refl
  where
    found : (t : Bool) → is_at (nat_cmp n) b.number ≡ t → bound_at n (with_bound frame b) ≡ cond t (Some b) (bound_at n frame)
    found t e = found_insert n b.number b frame ∙ ap (λ x. cond x (Some b) (bound_at n frame)) e

    by : (t : Bool) → is_at (nat_cmp n) b.number ≡ t → ((b.number ≡ n) × (bound_at n (with_bound frame b) ≡ Some b))
        ⊎ ((b.number ≢ n) × (bound_at n (with_bound frame b) ≡ bound_at n frame))
    by true e = inl (sym (number_at n b.number e), found true e)
    by false e = inr ((λ same. at_differs n b.number e (sym same)), found false e)

-- a binding in some frames is a value in them
pub bound_value : (n : ℕ) (frames : Frames) (b : Bound) → innermost n frames ≡ Some b → value_in frames n ≡ Some b.value
bound_value n frames b e = sym (value_innermost n frames) ∙ ap value_of e

-- the same for its values, before any names
pub over_put : (frame : Frame) (b : Bound) (n : ℕ) → ((b.number ≡ n) × ((names : Names) → over (with_bound frame b) names n ≡ Some b.value))
    ⊎ ((b.number ≢ n) × ((names : Names) → over (with_bound frame b) names n ≡ over frame names n))
over_put frame b n =
    ⊎_elim (λ put. inl (put.0, λ names. ap (λ o. option_or (value_of o) (names n)) put.1))
    (λ kept. inr (kept.0, λ names. ap (λ o. option_or (value_of o) (names n)) kept.1)) (bound_put frame b n)

-- the number just bound has a value, and each number that had one still has one
pub has_put : (frame : Frame) (names : Names) (b : Bound) (n : ℕ) → (b.number ≡ n) ⊎ HasValue (over frame names) n
    → HasValue (over (with_bound frame b) names) n
has_put frame names b n h = by (over_put frame b n) h
  where
    by : ((b.number ≡ n) × ((names : Names) → over (with_bound frame b) names n ≡ Some b.value))
        ⊎ ((b.number ≢ n) × ((names : Names) → over (with_bound frame b) names n ≡ over frame names n)) → (b.number ≡ n) ⊎ HasValue (over frame names) n
        → HasValue (over (with_bound frame b) names) n
    by (inl put) h = (b.value, put.1 names)
    by (inr kept) (inl same) = absurd (kept.0 same)
    by (inr kept) (inr old) = (old.0, kept.1 names ∙ old.1)
