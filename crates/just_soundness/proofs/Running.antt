-- A run by rules, one name after another: each trace of a run follows them.
use Rattle.std.proofs.Common.{◌≡◌, ℕ, Bool, true, false, ◌&&◌, not, List, [], ◌∷◌, ◌++◌, Option, Some, None, if◌then◌else◌, refl, sym, ap, subst}
use Rattle.std.proofs.lemmas.List.{append-nil}
use Rattle.std.specs.Option.{is_some}
use Rattle.just_interaction.proofs.Parts.{Ended, Parts, Went, parts}
use Rattle.just_interaction.proofs.Paths.{bind_bind, path_cut}
use Rattle.just_syntax.specs.Plain.{Token, Assignment}
use Rattle.just_value.specs.Value.{Value}
use Rattle.just_value.specs.Frames.{Bound, Frames, bound_innermost, innermost}
use Rattle.just_value.specs.Refusal.{Refusal, Internal}
use Rattle.just_value.specs.Outcome.{Outcome, Gave, Refused, Stopped}
use Rattle.just_host.specs.Interaction.{Begins, Event, Noted, Path, Ends, Notes, Shuts, Tree, bind, freely, gives, note}
use Rattle.just_host.specs.Interaction as interaction
use Rattle.just_meaning.specs.Assignments.{assignment_at}
use Rattle.just_meaning.specs.Blocks.{Block}
use Rattle.just_meaning.specs.Messages.{unknown_assignment_text}
use Rattle.just_meaning.specs.Module.{Module, Closing, assigned, bound_in, evaluated, run, turn_of}

-- the name is that of an assignment that is referenced and not bound
pub record IsTaken (m : Module) (frames : Frames) (t : Token) (a : Assignment) : Type 0 where
  pub found : assignment_at m.assignments t.lexeme ≡ Some a
  pub referenced : m.assignments.referenced a.number ≡ true
  pub unbound : innermost a.number frames ≡ None

-- A run of the assignments with these names from these frames: a block for each one that is evaluated, and the frames
-- at the end. If memory runs out, it may stop at any point.
pub data Running (closing : Closing) (m : Module) : Frames → List Token → List Block → Outcome Frames → Type 0 where
  Finished : {frames : Frames} → Running closing m frames [] [] (Gave frames)
  Stops : {frames : Frames} {left : List Token} → Running closing m frames left [] Stopped
  -- there is no such assignment
  Unknown : {frames : Frames} {t : Token} {left : List Token} → assignment_at m.assignments t.lexeme ≡ None
      → Running closing m frames (t ∷ left) [] (Refused (Internal (unknown_assignment_text t.lexeme) t))
  -- it is not referenced
  Passes : {frames : Frames} {t : Token} {left : List Token} {bs : List Block} {o : Outcome Frames} → (a : Assignment)
      → assignment_at m.assignments t.lexeme ≡ Some a → m.assignments.referenced a.number ≡ false
      → Running closing m frames left bs o → Running closing m frames (t ∷ left) bs o
  -- it is already bound
  Skips : {frames : Frames} {t : Token} {left : List Token} {bs : List Block} {o : Outcome Frames} → (a : Assignment) (b : Bound)
      → assignment_at m.assignments t.lexeme ≡ Some a → m.assignments.referenced a.number ≡ true → innermost a.number frames ≡ Some b
      → Running closing m frames left bs o → Running closing m frames (t ∷ left) bs o
  -- its value is bound
  Binds : {frames : Frames} {t : Token} {left : List Token} {bs : List Block} {o : Outcome Frames}
      → (a : Assignment) (es : List Event) (v : Value) → IsTaken m frames t a → Path freely (assigned closing m frames a) es (Gave v)
      → Running closing m (bound_innermost frames (bound_in m a v)) left bs o
      → Running closing m frames (t ∷ left) (record { number = a.number; events = es; outcome = Gave v } ∷ bs) o
  -- it is refused
  Breaks : {frames : Frames} {t : Token} {left : List Token} → (a : Assignment) (es : List Event) (r : Refusal)
      → IsTaken m frames t a → Path freely (assigned closing m frames a) es (Refused r)
      → Running closing m frames (t ∷ left) (record { number = a.number; events = es; outcome = Refused r } ∷ []) (Refused r)
  -- it is stopped
  Halts : {frames : Frames} {t : Token} {left : List Token} → (a : Assignment) (es : List Event) → IsTaken m frames t a
      → Path freely (assigned closing m frames a) es Stopped
      → Running closing m frames (t ∷ left) (record { number = a.number; events = es; outcome = Stopped } ∷ []) Stopped

-- ---- blocks with their marks

-- the mark at the end of a block, if it has a value
abbrev end_mark : ℕ → Outcome Value → List Event
end_mark n (Gave v) = Noted (interaction.Binds n v) ∷ []
end_mark n (Refused r) = []
end_mark n Stopped = []

-- the events of blocks, with the marks
abbrev pub marked : List Block → List Event
marked [] = []
marked (b ∷ bs) = Noted (Begins b.number) ∷ (b.events ++ (end_mark b.number b.outcome ++ marked bs))

-- ---- traces follow the rules

-- Blocks whose events, with the marks, are these follow the rules.
pub record ByRules (closing : Closing) (m : Module) (frames : Frames) (names : List Token) (es : List Event) (o : Outcome Frames) : Type 0 where
  pub blocks : List Block
  pub rules : Running closing m frames names blocks o
  pub same : marked blocks ≡ es

module _ (closing : Closing) (m : Module) where
  -- the rest of a run
  abbrev going : List Token → Frames → Tree Frames
  going left next = run closing m next left

  -- an assignment or not, after its name
  abbrev assigned_or_not : Frames → List Token → Assignment → Bool → Option Bound → Tree Frames
  assigned_or_not frames left a referenced bound =
      bind (if referenced && not (is_some bound) then evaluated closing m frames a else gives frames) (going left)

  abbrev AllByRules : List Token → Type 0
  AllByRules left = (next : Frames) (es : List Event) (o : Outcome Frames) → Path freely (run closing m next left) es o → ByRules closing m next left es o

  module _ (frames : Frames) (t : Token) (left : List Token) (a : Assignment) where
    -- the frames with the value of the assignment
    abbrev with_assigned_value : Value → Frames
    with_assigned_value v = bound_innermost frames (bound_in m a v)

    -- what follows the value of the assignment
    abbrev bound_and_going : Value → Tree Frames
    bound_and_going v = note (interaction.Binds a.number v) (going left (with_assigned_value v))

    taken_rules : IsTaken m frames t a → AllByRules left → {es : List Event} {o : Outcome Frames}
        → Parts freely bound_and_going (assigned closing m frames a) es o → ByRules closing m frames (t ∷ left) (Noted (Begins a.number) ∷ es) o
    taken_rules taken rest {es = es} (Ended (Some r) p) = record {
      blocks = record { number = a.number; events = es; outcome = Refused r } ∷ [];
      rules = Breaks a es r taken p;
      same = ap (λ fs. Noted (Begins a.number) ∷ fs) (append-nil es);
    }
    taken_rules taken rest {es = es} (Ended None p) = record {
      blocks = record { number = a.number; events = es; outcome = Stopped } ∷ [];
      rules = Halts a es taken p;
      same = ap (λ fs. Noted (Begins a.number) ∷ fs) (append-nil es);
    }
    taken_rules taken rest (Went {es = es} v p interaction.Stops) = record {
      blocks = record { number = a.number; events = es; outcome = Stopped } ∷ [];
      rules = Halts a es taken (path_cut p);
      same = refl;
    }
    taken_rules taken rest (Went v p (Shuts e)) = absurd (cc)
    taken_rules taken rest {o = o} (Went {es = es} v p (Notes {es = fs} e q)) =
        let on = rest (with_assigned_value v) fs o q in
        record {
          blocks = record { number = a.number; events = es; outcome = Gave v } ∷ on.blocks;
          rules = Binds a es v taken p on.rules;
          same = ap (λ gs. Noted (Begins a.number) ∷ (es ++ (Noted (interaction.Binds a.number v) ∷ gs))) on.same;
        }

    choice_rules : assignment_at m.assignments t.lexeme ≡ Some a → AllByRules left → (r : Bool) → m.assignments.referenced a.number ≡ r
        → (b : Option Bound) → innermost a.number frames ≡ b → {es : List Event} {o : Outcome Frames} → Path freely (assigned_or_not frames left a r b) es o
        → ByRules closing m frames (t ∷ left) es o
    choice_rules found rest false e b g path =
        let on = rest frames _ _ path in record { blocks = on.blocks; rules = Passes a found e on.rules; same = on.same }
    choice_rules found rest true e (Some b) g path =
        let on = rest frames _ _ path in record { blocks = on.blocks; rules = Skips a b found e g on.rules; same = on.same }
    choice_rules found rest true e None g interaction.Stops = record { blocks = []; rules = Stops; same = refl }
    choice_rules found rest true e None g (Shuts s) = absurd (cc)
    choice_rules found rest true e None g {o = o} (Notes {es = fs} s path) =
        taken_rules (record { found = found; referenced = e; unbound = g }) rest
        (parts freely bound_and_going (assigned closing m frames a) (subst (λ t. Path freely t fs o) (sym (bind_bind (assigned closing m frames a)
        (λ v. note (interaction.Binds a.number v) (gives (with_assigned_value v))) (going left))) path))

  named_rules : (frames : Frames) (t : Token) (left : List Token) → AllByRules left → (x : Option Assignment) → assignment_at m.assignments t.lexeme ≡ x
      → {es : List Event} {o : Outcome Frames} → Path freely (bind (turn_of closing m frames t x) (going left)) es o
      → ByRules closing m frames (t ∷ left) es o
  named_rules frames t left rest None e Ends = record { blocks = []; rules = Unknown e; same = refl }
  named_rules frames t left rest None e interaction.Stops = record { blocks = []; rules = Stops; same = refl }
  named_rules frames t left rest (Some a) found path =
      choice_rules frames t left a found rest (m.assignments.referenced a.number) refl (innermost a.number frames) refl path

  pub by_rules : (frames : Frames) (names : List Token) {es : List Event} {o : Outcome Frames} → Path freely (run closing m frames names) es o
      → ByRules closing m frames names es o
  by_rules frames [] Ends = record { blocks = []; rules = Finished; same = refl }
  by_rules frames [] interaction.Stops = record { blocks = []; rules = Stops; same = refl }
  by_rules frames (t ∷ left) path =
      named_rules frames t left (λ next es o p. by_rules next left p) (assignment_at m.assignments t.lexeme) refl path
