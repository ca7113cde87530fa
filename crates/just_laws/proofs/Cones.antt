-- Locality: what a variable reaches decides its value and its questions.
use Rattle.std.proofs.Common.{◌≡◌, ◌≢◌, inl, inr, ℕ, Bool, true, false, List, [], ◌∷◌, ◌++◌, map, nat_eq, if◌then◌else◌, refl, sym, ap, ◌∙◌, subst, arith}
use Rattle.std.proofs.lemmas.Bool.Decides.{nat_tests}
use Rattle.just_syntax.specs.Plain.{Token}
use Rattle.just_syntax.specs.Lists.{IsIn}
use Rattle.just_syntax.proofs.Lists.{in_of}
use Rattle.just_value.specs.Frames.{Frames}
use Rattle.just_value.specs.Outcome.{Outcome, Gave, Stopped}
use Rattle.just_host.specs.Interaction.{Event, Asked, Checked, Noted}
use Rattle.just_meaning.specs.Blocks.{Block, blocks_of, events_of}
use Rattle.just_meaning.specs.Module.{IsResolvedModule, Module, lexically}
use Rattle.just_meaning.specs.Resolved.{IsResolved}
use Rattle.just_meaning.proofs.Distinct.{distinct_front}
use Rattle.just_soundness.specs.Laws.{AreAnsweredAlike, AreSame}
use Rattle.just_soundness.proofs.Running.{Running}
use Rattle.just_laws.specs.Cone.{BlocksAgree, Cone, HaveSameCone, Itself, ReadBy, events_as, events_for}
use Rattle.just_laws.specs.Reordered.{IsTakenIn, reordered}
use Rattle.just_laws.proofs.Agreed.{AreMatched}
use Rattle.just_laws.proofs.Agreed as agreed
use Rattle.just_laws.proofs.Blocks.{all_met, blocks_alike, by_blocks}
use Rattle.just_laws.proofs.Orders.{both, not_stopped, partner}

same_cone : (m w : Module) (outer : Frames) (n : ℕ) → m.program.fixed ≡ w.program.fixed → m.limit ≡ w.limit → HaveSameCone m w outer n
    → AreMatched m w outer (Cone m outer n)
same_cone m w outer n fixed limit same = record {
  fixed = fixed;
  limit = limit;
  overrides = same.overrides;
  assignments = same.assignments;
  functions = same.functions;
  closed = λ a among e k read. ReadBy a among e read;
}

-- ---- the questions of a run, by the blocks of another

same_append : (es fs es' fs' : List Event) → AreSame es fs → AreSame es' fs' → AreSame (es ++ es') (fs ++ fs')
same_append [] [] es' fs' h k = k
same_append (Asked q a ∷ es) (Asked r b ∷ fs) es' fs' h k = (h.0, h.1, same_append es fs es' fs' h.2 k)
same_append (Noted x ∷ es) (Noted y ∷ fs) es' fs' h k = (h.0, same_append es fs es' fs' h.1 k)
same_append (Checked p v a ∷ es) (Checked q w b ∷ fs) es' fs' h k = (h.0, h.1, h.2, same_append es fs es' fs' h.3 k)
same_append [] (f ∷ fs) es' fs' h k = absurd h
same_append (Asked q a ∷ es) [] es' fs' h k = absurd h
same_append (Asked q a ∷ es) (Noted y ∷ fs) es' fs' h k = absurd h
same_append (Asked q a ∷ es) (Checked p v b ∷ fs) es' fs' h k = absurd h
same_append (Noted x ∷ es) [] es' fs' h k = absurd h
same_append (Noted x ∷ es) (Asked r b ∷ fs) es' fs' h k = absurd h
same_append (Noted x ∷ es) (Checked p v b ∷ fs) es' fs' h k = absurd h
same_append (Checked p v a ∷ es) [] es' fs' h k = absurd h
same_append (Checked p v a ∷ es) (Asked r b ∷ fs) es' fs' h k = absurd h
same_append (Checked p v a ∷ es) (Noted y ∷ fs) es' fs' h k = absurd h

-- the first block with a number is one of the blocks
first_of : (bs : List Block) (n : ℕ) (b : Block) → IsIn bs b → b.number ≡ n → (c : Block) × IsIn bs c × (c.number ≡ n) × (events_for bs n ≡ c.events)
first_of [] n b at number = absurd at
first_of (c ∷ bs) n b at number = by (nat_eq c.number n) refl at (λ at. first_of bs n b at number)
  where
    by : (t : Bool) → nat_eq c.number n ≡ t → IsIn (c ∷ bs) b → (IsIn bs b → (d : Block) × IsIn bs d × (d.number ≡ n) × (events_for bs n ≡ d.events))
        → (d : Block) × IsIn (c ∷ bs) d × (d.number ≡ n) × ((if t then c.events else events_for bs n) ≡ d.events)
    by true e at later = (c, inl refl, grind (arith, nat_tests), refl)
    by false e (inl same) later = let one : c.number ≡ n = ap (λ (x : Block). x.number) same ∙ number in absurd (grind (arith, nat_tests))
    by false e (inr at) later = let d = later at in (d.0, inr d.1, d.2, d.3)

events_by : (bs cs : List Block) → ((c : Block) → IsIn cs c → AreSame (events_for bs c.number) c.events) → AreSame (events_as bs cs) (events_of cs)
events_by bs [] h = tt
events_by bs (c ∷ cs) h =
    same_append (events_for bs c.number) c.events (events_as bs cs) (events_of cs) (h c (inl refl)) (events_by bs cs (λ d at. h d (inr at)))

module _ (m : Module) (order : List Token) (referenced : ℕ → Bool) (outer : Frames) (bs cs : List Block) (frames : Frames) (p : Outcome Frames)
    (one : IsResolvedModule m outer)
    (other : IsResolved m.program.functions (reordered m order referenced).assignments outer)
    (r : Running lexically m ([] ∷ outer) m.assignments.order bs (Gave frames)) (q : Running lexically (reordered m order referenced) ([] ∷ outer) order cs p)
    (talk : AreAnsweredAlike (events_of bs) (events_of cs)) (within : (n : ℕ) → IsTakenIn (reordered m order referenced) n → IsTakenIn m n)
    (on : p ≢ Stopped) where
  block_same : (c : Block) → IsIn cs c → AreSame (events_for bs c.number) c.events
  block_same c at =
      let b = partner m order referenced outer bs cs (Gave frames) p one other r q talk frames r within c at in
      let d = first_of bs c.number b.0 b.1 b.2 in
      subst (λ es. AreSame es c.events) (sym d.3)
      (both m order referenced outer bs cs (Gave frames) p one other r q talk d.0 c d.1 at d.2 (not_stopped m outer [] r (λ e. absurd (cc)) d.0 d.1)
      (not_stopped (reordered m order referenced) outer [] q on c at)).1

pub blocks_agree : BlocksAgree
blocks_agree = record {
  blocks = λ m w outer es fs o p fixed limit one other path along talk b c at at' number same here there.
      let bs = blocks_of es o in
      let cs = blocks_of fs p in
      agreed.blocks_agree m w outer (Cone m outer b.number) (same_cone m w outer b.number fixed limit same) bs cs
      (all_met m outer (distinct_front (map (λ a. a.number) m.assignments.all) _ one.distinct) one.in_order (by_blocks m outer m.assignments.order path))
      (all_met w outer (distinct_front (map (λ a. a.number) w.assignments.all) _ other.distinct) other.in_order (by_blocks w outer w.assignments.order along))
      (blocks_alike es fs o p talk) b c (in_of bs b at) (in_of cs c at') Itself number here there;
  questions = λ m order referenced outer es fs frames p one other path along talk within on.
      let bs = blocks_of es (Gave frames) in
      let cs = blocks_of fs p in
      events_by bs cs (block_same m order referenced outer bs cs frames p one other (by_blocks m outer m.assignments.order path)
      (by_blocks (reordered m order referenced) outer order along) (blocks_alike es fs (Gave frames) p talk) within on);
}
