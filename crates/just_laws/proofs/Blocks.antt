-- The state of a run before each of its blocks.
use Rattle.std.proofs.Common.{◌≡◌, ◌⊎◌, ⊎_elim, inl, inr, ℕ, Bool, true, false, List, [], ◌∷◌, map, nat_eq, Option, Some, None, if◌then◌else◌, refl, sym, ap}
use Rattle.std.proofs.Common.{◌∙◌, subst, arith}
use Rattle.std.proofs.lemmas.Bool.Decides.{nat_tests}
use Rattle.std.specs.Option.{option_or}
use Rattle.just_syntax.specs.Plain.{Text, Token, Assignment}
use Rattle.just_syntax.specs.Keyed.{value_at}
use Rattle.just_syntax.proofs.Tables.{found_is}
use Rattle.just_syntax.specs.Lists.{IsIn}
use Rattle.just_syntax.proofs.Lists.{in_first, in_second}
use Rattle.just_value.specs.Value.{Value, Names}
use Rattle.just_value.specs.Frames.{Bound, Frame, Frames, bound_at, innermost, over, value_in, value_of, with_bound}
use Rattle.just_value.specs.Outcome.{Outcome, Gave, Refused, Stopped}
use Rattle.just_value.proofs.Values.{value_innermost}
use Rattle.just_host.specs.Interaction.{Event, Path, freely}
use Rattle.just_meaning.specs.Reaches.{Reads}
use Rattle.just_meaning.specs.Resolved.{AreDistinct, HasValue, AreInOrder}
use Rattle.just_meaning.specs.Blocks.{Block, blocks_of, events_of}
use Rattle.just_meaning.specs.Module.{Module, assigned, bound_in, lexically, run}
use Rattle.just_soundness.specs.Laws.{AreAnsweredAlike}
use Rattle.just_soundness.proofs.Bound.{bound_put, bound_value, over_put}
use Rattle.just_soundness.proofs.Marks.{blocks_run, events_within, unmarked_lexically}
use Rattle.just_soundness.proofs.Running.{IsTaken, Running, Finished, Stops, Unknown, Passes, Skips, Binds, Breaks, Halts}
use Rattle.just_soundness.proofs.Taken.{AllHave, have_more, have_put, none_taken, order_on}
use Rattle.just_laws.specs.Cone.{assignment_numbered}

-- ---- the blocks of a trace

-- they follow the rules of a run
pub by_blocks : (m : Module) (outer : Frames) (order : List Token) {es : List Event} {o : Outcome Frames}
    → Path freely (run lexically m ([] ∷ outer) order) es o → Running lexically m ([] ∷ outer) order (blocks_of es o) o
by_blocks m outer order path = blocks_run lexically unmarked_lexically m ([] ∷ outer) order path

-- whatever both ask in their blocks is answered alike
pub blocks_alike : (es fs : List Event) (o p : Outcome Frames) → AreAnsweredAlike es fs
    → AreAnsweredAlike (events_of (blocks_of es o)) (events_of (blocks_of fs p))
blocks_alike es fs o p talk = λ e f i j. talk e f (events_within es o e i) (events_within fs p f j)

-- ---- lists

-- an event of a block is an event of the run
pub among_blocks : (bs : List Block) (b : Block) → IsIn bs b → (e : Event) → IsIn b.events e → IsIn (events_of bs) e
among_blocks [] b h e k = absurd h
among_blocks (x ∷ bs) b (inl same) e k = in_first x.events (events_of bs) e (subst (λ (y : Block). IsIn y.events e) (sym same) k)
among_blocks (x ∷ bs) b (inr later) e k = in_second x.events (events_of bs) e (among_blocks bs b later e k)

-- ---- values

pub some_same : {A : Type 0} (v u : A) → Some v ≡ Some u → v ≡ u
some_same v u e = cc

pub gave_same : {A : Type 0} (v u : A) → ◌≡◌ {A = Outcome A} (Gave v) (Gave u) → v ≡ u
gave_same v u e = cc

pub never_both : {A : Type 0} (v : A) (x : Option A) → x ≡ Some v → x ≡ None → ⊥
never_both v x h k = absurd (cc)

-- if an overlay has no value, neither has what is below
pub below_nothing : (frame : Frame) (names : Names) (n : ℕ) → over frame names n ≡ None → names n ≡ None
below_nothing frame names n h = by (value_of (bound_at n frame)) h
  where
    by : (x : Option Value) → option_or x (names n) ≡ None → names n ≡ None
    by None e = e
    by (Some v) e = absurd (cc)

-- a number that had no value gets its value, and all others keep theirs
pub stays : (frame : Frame) (names : Names) (b : Bound) → over frame names b.number ≡ None → (k : ℕ) (v : Value) → over frame names k ≡ Some v
    → over (with_bound frame b) names k ≡ Some v
stays frame names b unbound k v h =
    ⊎_elim (λ put. absurd (never_both v _ h (subst (λ n. over frame names n ≡ None) put.0 unbound))) (λ kept. kept.1 names ∙ h) (over_put frame b k)

pub unbound_value : (n : ℕ) (frames : Frames) → innermost n frames ≡ None → value_in frames n ≡ None
unbound_value n frames e = sym (value_innermost n frames) ∙ ap value_of e

-- a number that no frame binds is not bound in the first
own_nothing : (frame : Frame) (outer : Frames) (n : ℕ) → innermost n (frame ∷ outer) ≡ None → bound_at n frame ≡ None
own_nothing frame outer n h = by (bound_at n frame) h
  where
    by : (x : Option Bound) → option_or x (innermost n outer) ≡ None → x ≡ None
    by None e = refl
    by (Some b) e = absurd (cc)

-- a number that was just bound is bound
pub put_bound : (frame : Frame) (b : Bound) → bound_at b.number (with_bound frame b) ≡ Some b
put_bound frame b = ⊎_elim (λ put. put.1) (λ kept. absurd (kept.0 refl)) (bound_put frame b b.number)

-- a binding stays when a number without one is bound
pub kept_bound : (frame : Frame) (outer : Frames) (new : Bound) (n : ℕ) (b : Bound) → innermost new.number (frame ∷ outer) ≡ None → bound_at n frame ≡ Some b
    → bound_at n (with_bound frame new) ≡ Some b
kept_bound frame outer new n b unbound h =
    ⊎_elim (λ put. absurd (never_both b _ h (subst (λ j. bound_at j frame ≡ None) put.0 (own_nothing frame outer new.number unbound)))) (λ kept. kept.1 ∙ h)
    (bound_put frame new n)

-- ---- assignments by number

numbered_one : (xs : List Assignment) (n : ℕ) (a : Assignment) → assignment_numbered xs n ≡ Some a → IsIn (map (λ a. a.number) xs) n
numbered_one [] n a h = absurd (cc)
numbered_one (x ∷ xs) n a h = by (nat_eq x.number n) refl h (λ is. numbered_one xs n a is)
  where
    by : (b : Bool) → nat_eq x.number n ≡ b → (if b then Some x else assignment_numbered xs n) ≡ Some a
        → (assignment_numbered xs n ≡ Some a → IsIn (map (λ a. a.number) xs) n) → IsIn (map (λ a. a.number) (x ∷ xs)) n
    by true e is later = inl (grind (arith, nat_tests))
    by false e is later = inr (later is)

-- if numbers are distinct, an assignment that its name finds is the one with its number
pub found_numbered : (name : Text) (all : List Assignment) (a : Assignment) → AreDistinct (map (λ a. a.number) all) → value_at (λ a. a.name.lexeme) name all
    ≡ Some a → assignment_numbered all a.number ≡ Some a
found_numbered name all a distinct found =
    found_is (λ a. a.name.lexeme) name (λ xs. AreDistinct (map (λ a. a.number) xs) × ((b : Assignment) → assignment_numbered xs b.number ≡ Some b
    → assignment_numbered all b.number ≡ Some b)) (λ a. assignment_numbered all a.number ≡ Some a)
    first after all a (distinct, λ b h. h) found
  where
    first : (a : Assignment) (xs : List Assignment) → AreDistinct (map (λ a. a.number) (a ∷ xs))
        × ((b : Assignment) → assignment_numbered (a ∷ xs) b.number ≡ Some b → assignment_numbered all b.number ≡ Some b)
        → assignment_numbered all a.number ≡ Some a
    first a xs h = h.1 a (let same : nat_eq a.number a.number ≡ true = grind (arith, nat_tests) in rw same refl)

    after : (a : Assignment) (xs : List Assignment) → AreDistinct (map (λ a. a.number) (a ∷ xs))
        × ((b : Assignment) → assignment_numbered (a ∷ xs) b.number ≡ Some b → assignment_numbered all b.number ≡ Some b)
        → AreDistinct (map (λ a. a.number) xs) × ((b : Assignment) → assignment_numbered xs b.number ≡ Some b → assignment_numbered all b.number ≡ Some b)
    after a xs h = (h.0.1, λ b is. h.1 b (later b is (nat_eq a.number b.number) refl))
      where
        later : (b : Assignment) → assignment_numbered xs b.number ≡ Some b → (t : Bool) → nat_eq a.number b.number ≡ t
            → assignment_numbered (a ∷ xs) b.number ≡ Some b
        later b is true e = let same : b.number ≡ a.number =
            grind (arith, nat_tests) in absurd (h.0.0 (subst (IsIn (map (λ a. a.number) xs)) same (numbered_one xs b.number b is)))
        later b is false e = rw e is

-- ---- the blocks of a run

-- the value is bound outside, or one of these blocks gave it
abbrev pub IsGiven : Frames → List Block → ℕ → Value → Type 0
IsGiven outer bs k v = (value_in outer k ≡ Some v) ⊎ ((b : Block) × IsIn bs b × (b.number ≡ k) × (b.outcome ≡ Gave v))

-- The state of the run after the blocks `before`, at this block: the frame so far, and the assignment, which is not
-- bound. What it reads has a value.
pub record Met (m : Module) (outer : Frames) (before : List Block) (b : Block) : Type 0 where
  pub frame : Frame
  pub assignment : Assignment
  pub number : assignment.number ≡ b.number
  pub found : assignment_numbered m.assignments.all assignment.number ≡ Some assignment
  pub unbound : value_in (frame ∷ outer) assignment.number ≡ None
  pub path : Path freely (assigned lexically m (frame ∷ outer) assignment) b.events b.outcome
  pub given : (k : ℕ) (v : Value) → value_in (frame ∷ outer) k ≡ Some v → IsGiven outer before k v
  pub reads : (k : ℕ) → Reads m.program.functions assignment.value k → HasValue (value_in (frame ∷ outer)) k

-- each block after those before it
abbrev pub AllMet : Module → Frames → List Block → List Block → Type 0
AllMet m outer before [] = Unit {0}
AllMet m outer before (b ∷ bs) = Met m outer before b × AllMet m outer (b ∷ before) bs

-- the number of a block is not bound outside
pub met_outside : (m : Module) (outer : Frames) (before : List Block) (b : Block) → Met m outer before b → value_in outer b.number ≡ None
met_outside m outer before b k = subst (λ n. value_in outer n ≡ None) k.number (below_nothing k.frame (value_in outer) k.assignment.number k.unbound)

pub given_among : (outer : Frames) (bs cs : List Block) (k : ℕ) (v : Value) → ((b : Block) → IsIn bs b → IsIn cs b) → IsGiven outer bs k v
    → IsGiven outer cs k v
given_among outer bs cs k v among (inl out) = inl out
given_among outer bs cs k v among (inr (b, at, number, gave)) = inr (b, among b at, number, gave)

met_among : (m : Module) (outer : Frames) (before all : List Block) (b : Block) → ((c : Block) → IsIn before c → IsIn all c) → Met m outer before b
    → Met m outer all b
met_among m outer before all b among k = record {
  frame = k.frame;
  assignment = k.assignment;
  number = k.number;
  found = k.found;
  unbound = k.unbound;
  path = k.path;
  given = λ n v h. given_among outer before all n v among (k.given n v h);
  reads = k.reads;
}

pub one_met : (m : Module) (outer : Frames) (before bs all : List Block) (b : Block) → ((c : Block) → IsIn before c → IsIn all c)
    → ((c : Block) → IsIn bs c → IsIn all c) → AllMet m outer before bs → IsIn bs b → Met m outer all b
one_met m outer before [] all b front after h at = absurd at
one_met m outer before (x ∷ bs) all b front after h (inl same) = subst (Met m outer all) same (met_among m outer before all x front h.0)
one_met m outer before (x ∷ bs) all b front after h (inr later) =
    one_met m outer (x ∷ before) bs all b (λ c at. ⊎_elim (λ same. after c (inl same)) (λ at. front c at) at) (λ c at. after c (inr at)) h.1 later

module _ (m : Module) (outer : Frames) (distinct : AreDistinct (map (λ a. a.number) m.assignments.all)) where
  abbrev AllGiven : Frame → List Block → Type 0
  AllGiven frame before = (k : ℕ) (v : Value) → value_in (frame ∷ outer) k ≡ Some v → IsGiven outer before k v

  abbrev InOrder : List ℕ → List Token → Type 0
  InOrder taken left = AreInOrder m.program.functions m.assignments outer taken left

  met_here : (frame : Frame) (taken : List ℕ) (before : List Block) (t : Token) (left : List Token) (a : Assignment) (es : List Event) (o : Outcome Value)
      → InOrder taken (t ∷ left) → AllHave outer frame taken → AllGiven frame before
      → IsTaken m (frame ∷ outer) t a → Path freely (assigned lexically m (frame ∷ outer) a) es o
      → Met m outer before (record { number = a.number; events = es; outcome = o })
  met_here frame taken before t left a es o h have given k p = record {
    frame = frame;
    assignment = a;
    number = refl;
    found = found_numbered t.lexeme m.assignments.all a distinct k.found;
    unbound = unbound_value a.number (frame ∷ outer) k.unbound;
    path = p;
    given = given;
    reads = λ n r. have n (h.0 a k.found k.referenced n r);
  }

  given_put : (frame : Frame) (before : List Block) (a : Assignment) (es : List Event) (v : Value) → AllGiven frame before
      → AllGiven (with_bound frame (bound_in m a v)) (record { number = a.number; events = es; outcome = Gave v } ∷ before)
  given_put frame before a es v given k u h =
      ⊎_elim
      (λ put. inr (record { number = a.number; events = es; outcome = Gave v }, inl refl, put.0, ap Gave (some_same v u (sym (put.1 (value_in outer)) ∙ h))))
      (λ kept. given_among outer before (record { number = a.number; events = es; outcome = Gave v } ∷ before) k u (λ c at. inr at)
      (given k u (sym (kept.1 (value_in outer)) ∙ h)))
      (over_put frame (bound_in m a v) k)

  met_from : (frame : Frame) (taken : List ℕ) (before : List Block) {left : List Token} {bs : List Block} {o : Outcome Frames} → InOrder taken left
      → AllHave outer frame taken → AllGiven frame before → Running lexically m (frame ∷ outer) left bs o → AllMet m outer before bs
  met_from frame taken before h have given Finished = tt
  met_from frame taken before h have given Stops = tt
  met_from frame taken before h have given (Unknown f) = tt
  met_from frame taken before {left = t ∷ left} h have given (Passes a f e r) =
      met_from frame taken before (order_on m.program.functions m.assignments outer taken t left a false f e h) have given r
  met_from frame taken before {left = t ∷ left} h have given (Skips a b f e g r) =
      met_from frame (a.number ∷ taken) before (order_on m.program.functions m.assignments outer taken t left a true f e h)
      (have_more outer frame taken a.number (b.value, bound_value a.number (frame ∷ outer) b g) have) given r
  met_from frame taken before {left = t ∷ left} h have given (Binds a es v k p r) = (
    met_here frame taken before t left a es (Gave v) h have given k p,
    met_from _ (a.number ∷ taken) _ (order_on m.program.functions m.assignments outer taken t left a true k.found k.referenced h)
        (have_put outer frame taken (bound_in m a v) have) (given_put frame before a es v given) r,
  )
  met_from frame taken before {left = t ∷ left} h have given (Breaks a es s k p) = (met_here frame taken before t left a es (Refused s) h have given k p, tt)
  met_from frame taken before {left = t ∷ left} h have given (Halts a es k p) = (met_here frame taken before t left a es Stopped h have given k p, tt)

  pub all_met : {left : List Token} {bs : List Block} {o : Outcome Frames} → InOrder [] left → Running lexically m ([] ∷ outer) left bs o → AllMet m outer [] bs
  all_met h r = met_from [] [] [] h (none_taken (HasValue (value_in ([] ∷ outer))) outer (λ n has. has)) (λ k v given. inl given) r
