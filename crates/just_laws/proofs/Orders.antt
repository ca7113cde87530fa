-- Confluence of orders: two orders of one module.
use Rattle.std.proofs.Common.{◌≡◌, ◌≢◌, ◌⊎◌, ⊎_elim, inl, inr, ℕ, Bool, true, false, List, [], ◌∷◌, map, Some, None, refl, sym, ap, ap₂, ◌∙◌, subst}
use Rattle.just_syntax.specs.Plain.{Token, Assignment}
use Rattle.just_syntax.specs.Lists.{IsIn}
use Rattle.just_syntax.proofs.Lists.{in_of, of_in}
use Rattle.just_value.specs.Value.{Value}
use Rattle.just_value.specs.Frames.{Bound, Frame, Frames, bound_at, own_frame, value_in, with_bound}
use Rattle.just_value.specs.Refusal.{Refusal}
use Rattle.just_value.specs.Outcome.{Outcome, Gave, Refused, Stopped}
use Rattle.just_meaning.specs.Assignments.{assignment_at}
use Rattle.just_meaning.specs.Resolved.{HasValue, AreAssignments, AreDistinct, IsResolved}
use Rattle.just_meaning.specs.Blocks.{Block, blocks_of, events_of}
use Rattle.just_meaning.specs.Module.{IsResolvedModule, Module, bound_in, lexically}
use Rattle.just_meaning.proofs.Distinct.{distinct_front}
use Rattle.just_soundness.specs.Laws.{AreAnsweredAlike, AreSame}
use Rattle.just_soundness.proofs.Bound.{bound_put, bound_value, has_put, over_put}
use Rattle.just_soundness.proofs.Running.{IsTaken, Running, Finished, Stops, Unknown, Passes, Skips, Binds, Breaks, Halts}
use Rattle.just_laws.specs.Reordered.{Agree, IsTakenIn, OrdersAgree, reordered}
use Rattle.just_laws.specs.Cone.{assignment_numbered}
use Rattle.just_laws.proofs.Blocks.{AllMet, all_met, blocks_alike, by_blocks, found_numbered, gave_same, kept_bound, met_outside, never_both, one_met}
use Rattle.just_laws.proofs.Blocks.{put_bound, some_same}
use Rattle.just_laws.proofs.Agreed.{AreMatched, blocks_agree, gave_on}

-- the block that made this binding: the assignment of its number, with its value
pub record IsMade (m : Module) (bs : List Block) (n : ℕ) (b : Bound) : Type 0 where
  pub block : Block
  pub assignment : Assignment
  pub value : Value
  pub among : IsIn bs block
  pub number : block.number ≡ n
  pub of_number : assignment_numbered m.assignments.all n ≡ Some assignment
  pub gave : block.outcome ≡ Gave value
  pub bound : b ≡ bound_in m assignment value

made_later : (m : Module) (x : Block) (bs : List Block) (n : ℕ) (b : Bound) → IsMade m bs n b → IsMade m (x ∷ bs) n b
made_later m x bs n b k = record {
  block = k.block;
  assignment = k.assignment;
  value = k.value;
  among = inr k.among;
  number = k.number;
  of_number = k.of_number;
  gave = k.gave;
  bound = k.bound;
}

refusal_same : {A : Type 0} (r s : Refusal) (o p : Outcome A) → o ≡ Refused r → p ≡ Refused s → o ≡ p → r ≡ s
refusal_same r s o p e f same = cc

-- ---- how a run ends

taken_here : (m : Module) (frames : Frames) (t : Token) (a : Assignment) → IsIn m.assignments.order t → IsTaken m frames t a → (n : ℕ)
    → a.number ≡ n → IsTakenIn m n
taken_here m frames t a at k n number =
    record { name = t; assignment = a; named = of_in m.assignments.order t at; found = k.found; referenced = k.referenced; number = number }

module _ (m : Module) (outer : Frames) where
  pub not_stopped : (frame : Frame) {left : List Token} {bs : List Block} {o : Outcome Frames} → Running lexically m (frame ∷ outer) left bs o → o ≢ Stopped
      → (b : Block) → IsIn bs b → b.outcome ≢ Stopped
  not_stopped frame Finished on b at = absurd at
  not_stopped frame Stops on b at = absurd at
  not_stopped frame (Unknown f) on b at = absurd at
  not_stopped frame (Passes a f e r) on b at = not_stopped frame r on b at
  not_stopped frame (Skips a c f e g r) on b at = not_stopped frame r on b at
  not_stopped frame (Binds a es v k p r) on b (inl same) = subst (λ (x : Block). x.outcome ≢ Stopped) same (λ e. absurd (cc))
  not_stopped frame (Binds a es v k p r) on b (inr at) = not_stopped _ r on b at
  not_stopped frame (Breaks a es s k p) on b (inl same) = subst (λ (x : Block). x.outcome ≢ Stopped) same (λ e. absurd (cc))
  not_stopped frame (Breaks a es s k p) on b (inr none) = absurd none
  not_stopped frame (Halts a es k p) on b at = absurd (on refl)

  -- a block that is refused is the last
  pub refused_last : (frame : Frame) {left : List Token} {bs : List Block} {o : Outcome Frames} → Running lexically m (frame ∷ outer) left bs o
      → (b : Block) (r : Refusal) → IsIn bs b → b.outcome ≡ Refused r → o ≡ Refused r
  refused_last frame Finished b r at e = absurd at
  refused_last frame Stops b r at e = absurd at
  refused_last frame (Unknown f) b r at e = absurd at
  refused_last frame (Passes a f g q) b r at e = refused_last frame q b r at e
  refused_last frame (Skips a c f g h q) b r at e = refused_last frame q b r at e
  refused_last frame (Binds a es v k p q) b r (inl same) e = let other : Gave v ≡ Refused r = ap (λ (x : Block). x.outcome) same ∙ e in absurd (cc)
  refused_last frame (Binds a es v k p q) b r (inr at) e = refused_last _ q b r at e
  refused_last frame (Breaks a es s k p) b r (inl same) e = ap (λ x. Refused x) (refusal_same s r _ b.outcome (sym (ap (λ (x : Block). x.outcome) same)) e refl)
  refused_last frame (Breaks a es s k p) b r (inr none) e = absurd none
  refused_last frame (Halts a es k p) b r (inl same) e = let other : Stopped ≡ Refused r = ap (λ (x : Block). x.outcome) same ∙ e in absurd (cc)
  refused_last frame (Halts a es k p) b r (inr none) e = absurd none

  -- if each block has a value, the run finishes
  all_gave : (frame : Frame) {left : List Token} {bs : List Block} {o : Outcome Frames} → Running lexically m (frame ∷ outer) left bs o
      → AreAssignments m.assignments left → o ≢ Stopped
      → ((b : Block) → IsIn bs b → (v : Value) × (b.outcome ≡ Gave v)) → (last : Frames) × (o ≡ Gave last)
  all_gave frame Finished named on gave = (frame ∷ outer, refl)
  all_gave frame Stops named on gave = absurd (on refl)
  all_gave frame (Unknown f) named on gave = let some = named.0.1 in absurd (cc)
  all_gave frame (Passes a f e r) named on gave = all_gave frame r named.1 on gave
  all_gave frame (Skips a c f e g r) named on gave = all_gave frame r named.1 on gave
  all_gave frame (Binds a es v k p r) named on gave = all_gave _ r named.1 on (λ b at. gave b (inr at))
  all_gave frame (Breaks a es s k p) named on gave = let v = gave _ (inl refl) in absurd (let other : Refused s ≡ Gave v.0 = v.1 in cc)
  all_gave frame (Halts a es k p) named on gave = absurd (on refl)

  -- the number of a block is taken
  taken_by : (frame : Frame) {left : List Token} {bs : List Block} {o : Outcome Frames} → ((t : Token) → IsIn left t → IsIn m.assignments.order t)
      → Running lexically m (frame ∷ outer) left bs o → (b : Block) → IsIn bs b → IsTakenIn m b.number
  taken_by frame within Finished b at = absurd at
  taken_by frame within Stops b at = absurd at
  taken_by frame within (Unknown f) b at = absurd at
  taken_by frame within (Passes a f e r) b at = taken_by frame (λ t h. within t (inr h)) r b at
  taken_by frame within (Skips a c f e g r) b at = taken_by frame (λ t h. within t (inr h)) r b at
  taken_by frame within (Binds {t = t} a es v k p r) b (inl same) = taken_here m _ t a (within t (inl refl)) k b.number (ap (λ (x : Block). x.number) same)
  taken_by frame within (Binds a es v k p r) b (inr at) = taken_by _ (λ t h. within t (inr h)) r b at
  taken_by frame within (Breaks {t = t} a es s k p) b (inl same) = taken_here m _ t a (within t (inl refl)) k b.number (ap (λ (x : Block). x.number) same)
  taken_by frame within (Breaks a es s k p) b (inr none) = absurd none
  taken_by frame within (Halts {t = t} a es k p) b (inl same) = taken_here m _ t a (within t (inl refl)) k b.number (ap (λ (x : Block). x.number) same)
  taken_by frame within (Halts a es k p) b (inr none) = absurd none

-- ---- a run that finishes

module _ (m : Module) (outer : Frames) (distinct : AreDistinct (map (λ a. a.number) m.assignments.all)) where
  -- a binding in its own frame was there before, or a block made it
  pub makes : (frame : Frame) {left : List Token} {bs : List Block} {last : Frames} → Running lexically m (frame ∷ outer) left bs (Gave last)
      → (n : ℕ) (b : Bound) → bound_at n (own_frame last) ≡ Some b → (bound_at n frame ≡ Some b) ⊎ IsMade m bs n b
  makes frame Finished n b h = inl h
  makes frame (Passes a f e r) n b h = makes frame r n b h
  makes frame (Skips a c f e g r) n b h = makes frame r n b h
  makes frame (Binds {t = t} {bs = bs} a es v k p r) n b h = ⊎_elim before (λ made. inr (made_later m block bs n b made)) (makes _ r n b h)
    where
      new : Bound
      new = bound_in m a v

      block : Block
      block = record { number = a.number; events = es; outcome = Gave v }

      before : bound_at n (with_bound frame new) ≡ Some b → (bound_at n frame ≡ Some b) ⊎ IsMade m (block ∷ bs) n b
      before old =
          ⊎_elim
          (λ put. inr (record {
            block = block;
            assignment = a;
            value = v;
            among = inl refl;
            number = put.0;
            of_number = subst (λ k. assignment_numbered m.assignments.all k ≡ Some a) put.0 (found_numbered t.lexeme m.assignments.all a distinct k.found);
            gave = refl;
            bound = some_same b new (sym old ∙ put.1);
          }))
          (λ kept. inl (sym kept.1 ∙ old))
          (bound_put frame new n)

  stays_bound : (frame : Frame) {left : List Token} {bs : List Block} {last : Frames} → Running lexically m (frame ∷ outer) left bs (Gave last)
      → (n : ℕ) (b : Bound) → bound_at n frame ≡ Some b → bound_at n (own_frame last) ≡ Some b
  stays_bound frame Finished n b h = h
  stays_bound frame (Passes a f e r) n b h = stays_bound frame r n b h
  stays_bound frame (Skips a c f e g r) n b h = stays_bound frame r n b h
  stays_bound frame (Binds a es v k p r) n b h = stays_bound _ r n b (kept_bound frame outer (bound_in m a v) n b k.unbound h)

  -- a block with a value bound it
  pub block_bound : (frame : Frame) {left : List Token} {bs : List Block} {last : Frames} → Running lexically m (frame ∷ outer) left bs (Gave last)
      → (b : Block) (v : Value) → IsIn bs b → b.outcome ≡ Gave v
      → (a : Assignment) × (assignment_numbered m.assignments.all b.number ≡ Some a) × (bound_at b.number (own_frame last) ≡ Some (bound_in m a v))
  block_bound frame Finished b v at e = absurd at
  block_bound frame (Passes a f g r) b v at e = block_bound frame r b v at e
  block_bound frame (Skips a c f g h r) b v at e = block_bound frame r b v at e
  block_bound frame (Binds a es u k p r) b v (inr at) e = block_bound _ r b v at e
  block_bound frame {last = last} (Binds {t = t} a es u k p r) b v (inl same) e =
      (a, subst (λ n. assignment_numbered m.assignments.all n ≡ Some a) number (found_numbered t.lexeme m.assignments.all a distinct k.found), bound)
    where
      number : a.number ≡ b.number
      number = ap (λ (x : Block). x.number) same

      bound : bound_at b.number (own_frame last) ≡ Some (bound_in m a v)
      bound = subst (λ n. bound_at n (own_frame last) ≡ Some (bound_in m a v)) number
          (stays_bound _ r a.number _ (put_bound frame (bound_in m a u))
          ∙ ap (λ x. Some (bound_in m a x)) (gave_same u v (ap (λ (x : Block). x.outcome) same ∙ e)))

  value_stays : (frame : Frame) {left : List Token} {bs : List Block} {last : Frames} → Running lexically m (frame ∷ outer) left bs (Gave last) → (n : ℕ)
      → HasValue (value_in (frame ∷ outer)) n → HasValue (value_in last) n
  value_stays frame Finished n h = h
  value_stays frame (Passes a f e r) n h = value_stays frame r n h
  value_stays frame (Skips a c f e g r) n h = value_stays frame r n h
  value_stays frame (Binds a es v k p r) n h = value_stays _ r n (has_put frame (value_in outer) (bound_in m a v) n (inr h))

  -- what is taken has a value at the end
  taken_has : (frame : Frame) {left : List Token} {bs : List Block} {last : Frames} → Running lexically m (frame ∷ outer) left bs (Gave last)
      → (t : Token) (a : Assignment) → IsIn left t → assignment_at m.assignments t.lexeme ≡ Some a
      → m.assignments.referenced a.number ≡ true → HasValue (value_in last) a.number
  taken_has frame Finished t a at found referenced = absurd at
  taken_has frame (Passes c f e r) t a (inl same) found referenced =
      let one : c ≡ a = some_same c a (sym f ∙ ap (λ (x : Token). assignment_at m.assignments x.lexeme) same ∙ found) in
      absurd (let never : true ≡ false = sym referenced ∙ ap (λ (x : Assignment). m.assignments.referenced x.number) (sym one) ∙ e in cc)
  taken_has frame (Passes c f e r) t a (inr at) found referenced = taken_has frame r t a at found referenced
  taken_has frame (Skips c b f e g r) t a (inl same) found referenced =
      let one : c ≡ a = some_same c a (sym f ∙ ap (λ (x : Token). assignment_at m.assignments x.lexeme) same ∙ found) in
      value_stays frame r a.number (subst (λ (x : Assignment). HasValue (value_in (frame ∷ outer)) x.number) one
      (b.value, bound_value c.number (frame ∷ outer) b g))
  taken_has frame (Skips c b f e g r) t a (inr at) found referenced = taken_has frame r t a at found referenced
  taken_has frame (Binds c es v k p r) t a (inl same) found referenced =
      let one : c ≡ a = some_same c a (sym k.found ∙ ap (λ (x : Token). assignment_at m.assignments x.lexeme) same ∙ found) in
      value_stays _ r a.number (subst (λ (x : Assignment). HasValue (value_in (with_bound frame (bound_in m c v) ∷ outer)) x.number) one
      (has_put frame (value_in outer) (bound_in m c v) c.number (inl refl)))
  taken_has frame (Binds c es v k p r) t a (inr at) found referenced = taken_has _ r t a at found referenced

  -- a value at the end was there before, or a block gave it
  gives_value : (frame : Frame) {left : List Token} {bs : List Block} {last : Frames} → Running lexically m (frame ∷ outer) left bs (Gave last)
      → (n : ℕ) (v : Value) → value_in last n ≡ Some v
      → (value_in (frame ∷ outer) n ≡ Some v) ⊎ ((b : Block) × IsIn bs b × (b.number ≡ n) × (b.outcome ≡ Gave v))
  gives_value frame Finished n v h = inl h
  gives_value frame (Passes a f e r) n v h = gives_value frame r n v h
  gives_value frame (Skips a c f e g r) n v h = gives_value frame r n v h
  gives_value frame (Binds a es u k p r) n v h =
      ⊎_elim
      (λ old. ⊎_elim
      (λ put. inr (record { number = a.number; events = es; outcome = Gave u }, inl refl, put.0, ap Gave (some_same u v (sym (put.1 (value_in outer)) ∙ old))))
      (λ kept. inl (sym (kept.1 (value_in outer)) ∙ old))
      (over_put frame (bound_in m a u) n))
      (λ made. inr (made.0, inr made.1, made.2, made.3))
      (gives_value _ r n v h)

-- ---- two runs

everywhere : (m : Module) (order : List Token) (referenced : ℕ → Bool) (outer : Frames) → AreMatched m (reordered m order referenced) outer (λ n. Unit {0})
everywhere m order referenced outer = record {
  fixed = refl;
  limit = refl;
  overrides = λ n any. refl;
  assignments = λ n any. refl;
  functions = λ a any e name reached. refl;
  closed = λ a any e n read. tt;
}

module _ (m : Module) (order : List Token) (referenced : ℕ → Bool) (outer : Frames) (bs cs : List Block) (o p : Outcome Frames) (one : IsResolvedModule m outer)
    (other : IsResolved m.program.functions (reordered m order referenced).assignments outer) (r : Running lexically m ([] ∷ outer) m.assignments.order bs o)
    (q : Running lexically (reordered m order referenced) ([] ∷ outer) order cs p)
    (talk : AreAnsweredAlike (events_of bs) (events_of cs)) where
  abbrev w : Module
  w = reordered m order referenced

  distinct : AreDistinct (map (λ a. a.number) m.assignments.all)
  distinct = distinct_front (map (λ a. a.number) m.assignments.all) _ one.distinct

  met : AllMet m outer [] bs
  met = all_met m outer distinct one.in_order r

  other_met : AllMet w outer [] cs
  other_met = all_met w outer distinct other.in_order q

  pub both : (b c : Block) → IsIn bs b → IsIn cs c → b.number ≡ c.number → b.outcome ≢ Stopped → c.outcome ≢ Stopped → (b.outcome ≡ c.outcome)
      × AreSame b.events c.events
  both b c at at' number here there =
      blocks_agree m w outer (λ n. Unit {0}) (everywhere m order referenced outer) bs cs met other_met talk b c at at' tt number here there

  outside : (c : Block) → IsIn cs c → value_in outer c.number ≡ None
  outside c at = met_outside w outer cs c (one_met w outer [] cs cs c (λ x none. absurd none) (λ x h. h) other_met at)

  -- if both make a binding of a number, it is the same
  one_binding : (n : ℕ) (b c : Bound) → IsMade m bs n b → IsMade w cs n c → b ≡ c
  one_binding n b c k l = k.bound ∙ ap₂ (bound_in m) assignment value ∙ sym l.bound
    where
      assignment : k.assignment ≡ l.assignment
      assignment = some_same k.assignment l.assignment (sym k.of_number ∙ l.of_number)

      value : k.value ≡ l.value
      value = gave_same k.value l.value
          (sym k.gave
          ∙ (both k.block l.block k.among l.among (k.number ∙ sym l.number) (gave_on k.value k.block.outcome k.gave)
          (gave_on l.value l.block.outcome l.gave)).0 ∙ l.gave)

  module _ (frames : Frames) (finished : Running lexically m ([] ∷ outer) m.assignments.order bs (Gave frames)) where
    -- a finished run binds in its own frame only what its blocks made
    made : (n : ℕ) (b : Bound) → bound_at n (own_frame frames) ≡ Some b → IsMade m bs n b
    made n b h = ⊎_elim (λ none. absurd (cc)) (λ made. made) (makes m outer distinct [] finished n b h)

    -- the run's block for a block of the other, if the other takes nothing else
    pub partner : ((n : ℕ) → IsTakenIn w n → IsTakenIn m n) → (c : Block) → IsIn cs c → (b : Block) × IsIn bs b × (b.number ≡ c.number)
        × ((v : Value) × (b.outcome ≡ Gave v))
    partner within c at = ⊎_elim
        (λ out. absurd (never_both h.0 (value_in outer k.assignment.number) out (subst (λ n. value_in outer n ≡ None) (sym k.number) (outside c at))))
        (λ b. (b.0, b.1, b.2 ∙ k.number, (h.0, b.3)))
        (gives_value m outer distinct [] finished k.assignment.number h.0 h.1)
      where
        k : IsTakenIn m c.number
        k = within c.number (taken_by w outer [] (λ t h. h) q c at)

        h : HasValue (value_in frames) k.assignment.number
        h = taken_has m outer distinct [] finished k.name k.assignment (in_of m.assignments.order k.name k.named) k.found k.referenced

    module _ (within : (n : ℕ) → IsTakenIn w n → IsTakenIn m n) (on : p ≢ Stopped) where
      gave : (c : Block) → IsIn cs c → (v : Value) × (c.outcome ≡ Gave v)
      gave c at =
          let b = partner within c at in
          (b.3.0, sym (both b.0 c b.1 at b.2 (gave_on b.3.0 b.0.outcome b.3.1) (not_stopped w outer [] q on c at)).0 ∙ b.3.1)

      end : (last : Frames) × (p ≡ Gave last)
      end = all_gave w outer [] q other.named on gave

      -- a binding that the other makes is bound here
      bound_here : (n : ℕ) (c : Bound) → IsMade w cs n c → bound_at n (own_frame frames) ≡ Some c
      bound_here n c l =
          let b = partner within l.block l.among in
          let k = block_bound m outer distinct [] finished b.0 b.3.0 b.1 b.3.1 in
          let bound : bound_at n (own_frame frames) ≡ Some (bound_in m k.0 b.3.0) =
          subst (λ j. bound_at j (own_frame frames) ≡ Some (bound_in m k.0 b.3.0)) (b.2 ∙ l.number) k.2 in
          bound ∙ ap Some (one_binding n _ c (made n _ bound) l)

  agree : Agree m w bs cs o p
  agree = record {
    blocks = λ b c at at' number here there. both b c (in_of bs b at) (in_of cs c at') number here there;
    refusals = λ b c s at at' number refused there.
        refused_last w outer [] q c s (in_of cs c at')
        (sym (both b c (in_of bs b at) (in_of cs c at') number (λ e. absurd (let z : Refused s ≡ Stopped = sym refused ∙ e in cc)) there).0 ∙ refused);
    values = λ frames last n b c e f h k. one_binding n b c (made frames (subst (Running lexically m ([] ∷ outer) m.assignments.order bs) e r) n b h)
        (other_made last (subst (Running lexically w ([] ∷ outer) order cs) f q) n c k);
    finishes = λ frames e within on.
        let finished = subst (Running lexically m ([] ∷ outer) m.assignments.order bs) e r in
        let last = end frames finished within on in
        let other = subst (Running lexically w ([] ∷ outer) order cs) last.1 q in
        (last.0, last.1, λ n c h. bound_here frames finished within on n c (other_made last.0 other n c h));
  }
    where
      other_made : (last : Frames) → Running lexically w ([] ∷ outer) order cs (Gave last) → (n : ℕ) (c : Bound)
          → bound_at n (own_frame last) ≡ Some c → IsMade w cs n c
      other_made last finished n c h = ⊎_elim (λ none. absurd (cc)) (λ made. made) (makes w outer distinct [] finished n c h)

pub orders_agree : OrdersAgree
orders_agree m order referenced outer es fs o p one other path along talk =
    agree m order referenced outer (blocks_of es o) (blocks_of fs p) o p one other (by_blocks m outer m.assignments.order path)
    (by_blocks (reordered m order referenced) outer order along) (blocks_alike es fs o p talk)
