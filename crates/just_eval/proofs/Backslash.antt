-- Backslashes at the ends of texts.
use Rattle.std.proofs.Common.{◌≡◌, ◌≢◌, ◌==◌, ◌++◌, ℕ, true, false, [], ◌∷◌, refl, ap, inl, inr}
use Rattle.std.proofs.lemmas.Bool.Decides.{eqb_tells}
use Rattle.just_eval.specs.Prelude.{Text, ends_with_backslash, without_backslash}

-- ---- after some text

pub ends : (front : Text) → ends_with_backslash (front ++ 92 ∷ []) ≡ true
ends [] = refl
ends (c ∷ []) = refl
ends (c ∷ d ∷ front) = ends (d ∷ front)

pub cut : (front : Text) → without_backslash (front ++ 92 ∷ []) ≡ front
cut [] = refl
cut (c ∷ []) = refl
cut (c ∷ d ∷ front) = ap (λ cs. c ∷ cs) (cut (d ∷ front))

-- ---- without one

-- no text before a backslash is this one
abbrev pub EndsWithNoBackslash : Text → Type 0
EndsWithNoBackslash text = (front : Text) → text ≢ front ++ 92 ∷ []

lacks_rest : (c : ℕ) (cs : Text) → EndsWithNoBackslash (c ∷ cs) → EndsWithNoBackslash cs
lacks_rest c cs none front is = none (c ∷ front) (ap (λ x. c ∷ x) is)

single : (c : ℕ) → EndsWithNoBackslash (c ∷ []) → (c == 92) ≡ false
single c none = elim (eqb_tells c 92) [
  | inl is ↦ absurd (none [] (ap (λ x. x ∷ []) is.1))
  | inr other ↦ other.0
]

pub no_end : (text : Text) → EndsWithNoBackslash text → ends_with_backslash text ≡ false
no_end [] none = refl
no_end (c ∷ []) none = single c none
no_end (c ∷ d ∷ cs) none = no_end (d ∷ cs) (lacks_rest c (d ∷ cs) none)

pub kept : (text : Text) → EndsWithNoBackslash text → without_backslash text ≡ text
kept [] none = refl
kept (c ∷ []) none = rw (single c none) refl
kept (c ∷ d ∷ cs) none = ap (λ x. c ∷ x) (kept (d ∷ cs) (lacks_rest c (d ∷ cs) none))
