-- Parameters before names.
use Rattle.std.proofs.Common.{◌≡◌, ◌⊎◌, ⊎_elim, inl, inr, ℕ, List, [], ◌∷◌, length, Some, refl, sym, ◌∙◌, arith}
use Rattle.just_syntax.specs.Plain.{Token}
use Rattle.just_value.specs.Value.{Value, Names}
use Rattle.just_value.specs.Frames.{Frame, with_bound, over, plainly_bound}
use Rattle.just_meaning.specs.Reaches.{IsAmong}
use Rattle.just_meaning.specs.Resolved.{HasValue}
use Rattle.just_meaning.specs.Closings.{with_parameters}
use Rattle.just_soundness.proofs.Bound.{over_put}

-- A parameter's number has a value, whatever names are below. Any other number keeps its value.
abbrev Overlaid : List (Token × ℕ) → List Value → Frame → ℕ → Type 0
Overlaid ps vs frame n =
    (IsAmong ps n × ((v : Value) × ((names : Names) → over (with_parameters frame ps vs) names n ≡ Some v)))
    ⊎ ((IsAmong ps n → ⊥) × ((names : Names) → over (with_parameters frame ps vs) names n ≡ over frame names n))

overlaid : (ps : List (Token × ℕ)) (vs : List Value) (frame : Frame) (n : ℕ) → length ps ≡ length vs → Overlaid ps vs frame n
overlaid [] vs frame n e = inr ((λ none. none), λ names. refl)
overlaid (p ∷ ps) [] frame n e = absurd (omega arith)
overlaid (p ∷ ps) (v ∷ vs) frame n e =
    ⊎_elim
    (λ own. inl (inr own.0, own.1))
    (λ other. ⊎_elim
    (λ put. inl (inl put.0, (v, λ names. other.1 names ∙ put.1 names)))
    (λ kept. inr ((λ among. ⊎_elim kept.0 other.0 among), λ names. other.1 names ∙ kept.1 names))
    (over_put frame (plainly_bound p.0 p.1 v) n))
    (overlaid ps vs (with_bound frame (plainly_bound p.0 p.1 v)) n (omega arith))

module _ (ps : List (Token × ℕ)) (vs : List Value) (names : Names) (n : ℕ) (e : length ps ≡ length vs) where
  -- a name that is not a parameter
  pub parameters_other : (IsAmong ps n → ⊥) → over (with_parameters [] ps vs) names n ≡ names n
  parameters_other out = ⊎_elim (λ own. absurd (out own.0)) (λ other. other.1 names) (overlaid ps vs [] n e)

  -- two maps of names that agree beyond the parameters
  pub parameters_same : (base : Names) → ((IsAmong ps n → ⊥) → names n ≡ base n) → over (with_parameters [] ps vs) names n
      ≡ over (with_parameters [] ps vs) base n
  parameters_same base h = ⊎_elim (λ own. own.1.1 names ∙ sym (own.1.1 base)) (λ other. other.1 names ∙ h other.0 ∙ sym (other.1 base)) (overlaid ps vs [] n e)

  -- each parameter has a value, and so does each name that has one beyond them
  pub parameters_have : ((IsAmong ps n → ⊥) → HasValue names n) → HasValue (over (with_parameters [] ps vs) names) n
  parameters_have h = ⊎_elim (λ own. (own.1.0, own.1.1 names)) (λ other. let v = h other.0 in (v.0, other.1 names ∙ v.1)) (overlaid ps vs [] n e)
