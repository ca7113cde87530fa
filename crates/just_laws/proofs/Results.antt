-- The end of a run agrees with its blocks.
use Rattle.std.proofs.Common.{◌≡◌, ⊎_elim, inl, inr, List, [], ◌∷◌, map, refl, sym, ap, ◌∙◌, subst}
use Rattle.just_syntax.specs.Plain.{Token}
use Rattle.just_syntax.specs.Lists.{IsIn}
use Rattle.just_syntax.proofs.Lists.{in_of, of_in}
use Rattle.just_value.specs.Value.{Value}
use Rattle.just_value.specs.Frames.{Frame, Frames}
use Rattle.just_value.specs.Refusal.{Refusal}
use Rattle.just_value.specs.Outcome.{Outcome, Gave, Refused, Stopped}
use Rattle.just_meaning.specs.Blocks.{Block, blocks_of}
use Rattle.just_meaning.specs.Module.{IsResolvedModule, Module, lexically}
use Rattle.just_meaning.specs.Resolved.{AreAssignments, AreDistinct}
use Rattle.just_meaning.proofs.Distinct.{distinct_front}
use Rattle.just_soundness.proofs.Running.{Running, Finished, Stops, Unknown, Passes, Skips, Binds, Breaks, Halts}
use Rattle.just_laws.specs.Results.{EndsAsItsBlocks, IsLast, ResultsHaveBlocks}
use Rattle.just_laws.proofs.Blocks.{by_blocks}
use Rattle.just_laws.proofs.Orders.{block_bound, makes, not_stopped, refused_last}

later_last : (x : Block) (bs : List Block) (b : Block) → IsLast bs b → IsLast (x ∷ bs) b
later_last x bs b h = (x ∷ h.0, ap (λ (ys : List Block). x ∷ ys) h.1)

module _ (m : Module) (outer : Frames) where
  -- each block of a finished run gave a value
  all_gave : (frame : Frame) {left : List Token} {bs : List Block} {last : Frames} → Running lexically m (frame ∷ outer) left bs (Gave last) → (b : Block)
      → IsIn bs b → (v : Value) × (b.outcome ≡ Gave v)
  all_gave frame Finished b at = absurd at
  all_gave frame (Passes a f e r) b at = all_gave frame r b at
  all_gave frame (Skips a c f e g r) b at = all_gave frame r b at
  all_gave frame (Binds a es v k p r) b (inl same) = (v, sym (ap (λ (x : Block). x.outcome) same))
  all_gave frame (Binds a es v k p r) b (inr at) = all_gave _ r b at

  -- no block comes after a refused one
  refused_is_last : (frame : Frame) {left : List Token} {bs : List Block} {o : Outcome Frames} → Running lexically m (frame ∷ outer) left bs o
      → (b : Block) (r : Refusal) → IsIn bs b → b.outcome ≡ Refused r → IsLast bs b
  refused_is_last frame Finished b r at e = absurd at
  refused_is_last frame Stops b r at e = absurd at
  refused_is_last frame (Unknown f) b r at e = absurd at
  refused_is_last frame (Passes a f g q) b r at e = refused_is_last frame q b r at e
  refused_is_last frame (Skips a c f g h q) b r at e = refused_is_last frame q b r at e
  refused_is_last frame (Binds a es v k p q) b r (inl same) e = let other : Gave v ≡ Refused r = ap (λ (x : Block). x.outcome) same ∙ e in absurd (cc)
  refused_is_last frame (Binds {bs = bs} a es v k p q) b r (inr at) e = later_last _ bs b (refused_is_last _ q b r at e)
  refused_is_last frame (Breaks a es s k p) b r (inl same) e = ([], ap (λ (x : Block). x ∷ []) same)
  refused_is_last frame (Breaks a es s k p) b r (inr none) e = absurd none
  refused_is_last frame (Halts a es k p) b r (inl same) e = let other : Stopped ≡ Refused r = ap (λ (x : Block). x.outcome) same ∙ e in absurd (cc)
  refused_is_last frame (Halts a es k p) b r (inr none) e = absurd none

  -- a refused run of known names has a block with that refusal
  has_refused : (frame : Frame) {left : List Token} {bs : List Block} {o : Outcome Frames} → AreAssignments m.assignments left
      → Running lexically m (frame ∷ outer) left bs o
      → (r : Refusal) → o ≡ Refused r → (b : Block) × IsIn bs b × (b.outcome ≡ Refused r)
  has_refused frame named Finished r e = absurd (cc)
  has_refused frame named Stops r e = absurd (cc)
  has_refused frame named (Unknown f) r e = let some = named.0.1 in absurd (cc)
  has_refused frame named (Passes a f g q) r e = has_refused frame named.1 q r e
  has_refused frame named (Skips a c f g h q) r e = has_refused frame named.1 q r e
  has_refused frame named (Binds a es v k p q) r e = let b = has_refused _ named.1 q r e in (b.0, inr b.1, b.2)
  has_refused frame named (Breaks a es s k p) r e = (record { number = a.number; events = es; outcome = Refused s }, inl refl, cc)
  has_refused frame named (Halts a es k p) r e = absurd (cc)

  module _ (bs : List Block) (o : Outcome Frames) (resolved : IsResolvedModule m outer) (run : Running lexically m ([] ∷ outer) m.assignments.order bs o) where
    distinct : AreDistinct (map (λ a. a.number) m.assignments.all)
    distinct = distinct_front (map (λ a. a.number) m.assignments.all) _ resolved.distinct

    finished : (frames : Frames) → o ≡ Gave frames → Running lexically m ([] ∷ outer) m.assignments.order bs (Gave frames)
    finished frames e = subst (Running lexically m ([] ∷ outer) m.assignments.order bs) e run

    ends : EndsAsItsBlocks bs o
    ends = record {
      bindings = λ frames n bound e h.
          ⊎_elim (λ none. absurd (cc)) (λ made. (made.block, of_in bs made.block made.among, made.number, made.gave ∙ ap (λ x. Gave x.value) (sym made.bound)))
          (makes m outer distinct [] (finished frames e) n bound h);
      values = λ frames b e at.
          let gave = all_gave [] (finished frames e) b (in_of bs b at) in
          let bound = block_bound m outer distinct [] (finished frames e) b gave.0 (in_of bs b at) gave.1 in
          (_, bound.2, gave.1);
      unstopped = λ b on at. not_stopped m outer [] run on b (in_of bs b at);
      refused = λ b r at e. (refused_last m outer [] run b r (in_of bs b at) e, refused_is_last [] run b r (in_of bs b at) e);
      refusal = λ r e. let b = has_refused [] resolved.named run r e in (b.0, of_in bs b.0 b.1, b.2);
    }

pub results_have_blocks : ResultsHaveBlocks
results_have_blocks m outer es o resolved path = ends m outer (blocks_of es o) o resolved (by_blocks m outer m.assignments.order path)
