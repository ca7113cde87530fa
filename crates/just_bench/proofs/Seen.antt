-- Hosts viewed as other hosts.
use Rattle.std.proofs.Common.{◌≡◌, inl, inr, List, [], ◌∷◌, ap, subst}
use Rattle.just_bench.specs.Prelude.{Answer, Asked, Behaves, Chain, Checked, Closing, Event, Extends, Frames, Kept, Module, Noted, Outcome, Question}
use Rattle.just_bench.specs.Prelude.{RecordsAndAsks, Rules, Step, Tree, inner_host, recording, records_view, unchecked}
use Rattle.just_host.specs.declared.recorder.Recorder.{Recorder}

-- a transition of the first host is a transition of the second
abbrev pub Carries : {S T : Type 0} → Step S → Step T → (S → T) → Type 0
Carries {S} step other see = (a : S) (q : Question) (x : Answer) (b : S) → step a q x b → other (see a) q x (see b)

module _ {S T : Type 0} (step : Step S) (other : Step T) (see : S → T) (carried : Carries step other see) where
  chain_seen : (a : S) (es : List Event) (b : S) → Chain step unchecked a es b → Chain other unchecked (see a) es (see b)
  chain_seen a [] b p = ap see p
  chain_seen a (Asked q x ∷ es) b (m, s, p) = (see m, carried a q x m s, chain_seen m es b p)
  chain_seen a (Noted x ∷ es) b p = chain_seen a es b p
  chain_seen a (Checked x v y ∷ es) b p = absurd p.0

  -- a run of the first host is a run of the second
  pub behaves_seen : {rules : Rules} {A : Type 0} {t : Tree A} {outcome : Outcome A} (a b : S) → Behaves rules step unchecked a t outcome b
      → Behaves rules other unchecked (see a) t outcome (see b)
  behaves_seen a b r = record { events = r.events; path = r.path; chain = chain_seen a r.events b r.chain }

  -- the same for a run whose bindings are added to frames
  pub extends_seen : {closing : Closing} {m : Module} {frames : Frames} {outcome : Outcome Frames} (a b : S) → Extends closing step a m frames outcome b
      → Extends closing other (see a) m frames outcome (see b)
  extends_seen a b e = record { given = e.given; ran = behaves_seen a b e.ran; bound = e.bound }

-- the same, together with the questions so far
abbrev pub beside : {S T : Type 0} → (S → T) → S × List Kept → T × List Kept
beside see a = (see a.0, a.1)

-- a recorder without questions is its inner host, together with no questions
pub recorder_seen : {H : Type 0} (step : Step H) {rules : Rules} {A : Type 0} {t : Tree A} {outcome : Outcome A} (old new : Recorder H)
    → records_view old ≡ []
    → Behaves rules (λ a q x b. RecordsAndAsks step (inner_host a) (records_view a) q x (inner_host b) (records_view b)) unchecked old t outcome new
    → Behaves rules (recording step) unchecked (inner_host old, []) t outcome (inner_host new, records_view new)
recorder_seen step {rules = rules} {t = t} {outcome = outcome} old new fresh ran =
    subst (λ kept. Behaves rules (recording step) unchecked (inner_host old, kept) t outcome (inner_host new, records_view new)) fresh
    (behaves_seen (λ a q x b. RecordsAndAsks step (inner_host a) (records_view a) q x (inner_host b) (records_view b)) (recording step)
    (λ r. (inner_host r, records_view r)) (λ a q x b s. s) old new ran)

module _ {S T : Type 0} (step : Step S) (other : Step T) (see : S → T) (carried : Carries step other see) where
  pub recording_carried : Carries (recording step) (recording other) (beside see)
  recording_carried a q x b (inl (s, kept)) = inl (carried a.0 q x b.0 s, kept)
  recording_carried a q x b (inr (answer, same, kept)) = inr (answer, ap see same, kept)
