-- A run of one name in an empty scope binds nothing, or one number.
use Rattle.std.proofs.Common.{◌≡◌, ◌⊎◌, inl, inr, List, [], ◌∷◌, Option, Some, None, refl, ap, ◌∙◌, sym, subst}
use Rattle.std.specs.Map.{values_of}
use Rattle.just_bench.specs.Prelude.{Behaves, Bound, Closing, Extends, Frames, Gave, Module, Outcome, Refused, Step, Stopped, Token, and_then}
use Rattle.just_bench.specs.Prelude.{bound_in, bound_innermost, first_bound, first_given, freely, grown, in_order, own_frame, run, unchecked}
use Rattle.just_meaning.specs.Blocks.{Block}
use Rattle.just_soundness.proofs.Running.{Running, Finished, Passes, Skips, Binds, by_rules}

-- frames with an optional binding added
abbrev pub with_one : Frames → Option Bound → Frames
with_one frames None = frames
with_one frames (Some b) = bound_innermost frames b

abbrev BindsOne : Frames → Type 0
BindsOne own = (values_of (own_frame own) ≡ []) ⊎ ((b : Bound) × (values_of (own_frame own) ≡ b ∷ []))

module _ {closing : Closing} {m : Module} where
  at_end : {frames own : Frames} {bs : List Block} → Running closing m frames [] bs (Gave own) → frames ≡ own
  at_end Finished = refl

  binds_one : {frames own : Frames} {t : Token} {bs : List Block} → Running closing m ([] ∷ frames) (t ∷ []) bs (Gave own) → BindsOne own
  binds_one (Passes a f e r) = inl (rw (sym (at_end r)) refl)
  binds_one (Skips a b f e g r) = inl (rw (sym (at_end r)) refl)
  binds_one (Binds a es v k p r) = inr (bound_in m a v, rw (sym (at_end r)) refl)

first_is_all : (frames own : Frames) → BindsOne own → with_one frames (first_bound (values_of (own_frame own))) ≡ grown frames (values_of (own_frame own))
first_is_all frames own (inl none) = rw none refl
first_is_all frames own (inr (b, one)) = rw one refl

given_all : {closing : Closing} {m : Module} {frames : Frames} {t : Token} {bs : List Block} (given : Outcome Frames)
    → Running closing m ([] ∷ frames) (t ∷ []) bs given → and_then (first_given given) (λ b. Gave (with_one frames b))
    ≡ and_then given (λ own. Gave (grown frames (values_of (own_frame own))))
given_all {frames = frames} (Gave own) run = ap Gave (first_is_all frames own (binds_one run))
given_all (Refused r) run = refl
given_all Stopped run = refl

-- adding the first binding of the run to the frames adds all its bindings
pub extends_first : {closing : Closing} {S : Type 0} {step : Step S} {old new : S} {frames : Frames} (m : Module) (order : List Token) (t : Token)
    (given : Outcome Frames) (found : Outcome (Option Bound)) (outcome : Outcome Frames) → order ≡ t ∷ []
    → Behaves freely step unchecked old (run closing (in_order m order) ([] ∷ frames) order) given new → found ≡ first_given given
    → outcome ≡ and_then found (λ b. Gave (with_one frames b)) → Extends closing step old (in_order m (t ∷ [])) frames outcome new
extends_first {closing = closing} {step = step} {old = old} {new = new} {frames = frames} m order t given found outcome same ran found_is is =
    let one : Behaves freely step unchecked old (run closing (in_order m (t ∷ [])) ([] ∷ frames) (t ∷ [])) given new =
    subst (λ order. Behaves freely step unchecked old (run closing (in_order m order) ([] ∷ frames) order) given new) same ran in
    let rules = (by_rules closing (in_order m (t ∷ [])) ([] ∷ frames) (t ∷ []) one.path).rules in
    record { given = given; ran = one; bound = is ∙ ap (λ found. and_then found (λ b. Gave (with_one frames b))) found_is ∙ given_all given rules }
