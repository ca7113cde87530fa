-- Two runs of modules that are the same for some variables and everything these reach.
use Rattle.std.proofs.Common.{◌≡◌, ◌≢◌, inl, inr, ℕ, ◌-◌, List, [], ◌∷◌, Option, Some, None, refl, sym, ap, ◌∙◌, subst}
use Rattle.just_syntax.specs.Plain.{Text, Assignment, Function, Expr}
use Rattle.just_syntax.specs.Lists.{IsIn}
use Rattle.just_value.specs.Value.{Value}
use Rattle.just_value.specs.Frames.{Frames, value_in}
use Rattle.just_value.specs.Outcome.{Outcome, Gave, Stopped}
use Rattle.just_host.specs.Fixed.{Fixed}
use Rattle.just_host.specs.Interaction.{Path, Tree, freely}
use Rattle.just_meaning.specs.Reaches.{function_at, Reaches, Here, Later, Reads}
use Rattle.just_meaning.specs.Meaning.{eval}
use Rattle.just_meaning.specs.Closings.{lexical}
use Rattle.just_meaning.specs.Blocks.{Block, events_of}
use Rattle.just_meaning.specs.Module.{Module, assigned, lexically, or_override, situation_at}
use Rattle.just_soundness.specs.Laws.{AreAnsweredAlike, AreSame}
use Rattle.just_soundness.proofs.Alike.{Alike, Whole, alike_lexical, alike_override, alike_paths}
use Rattle.just_laws.specs.Cone.{IsEvaluated, assignment_numbered}
use Rattle.just_laws.proofs.Blocks.{AllMet, IsGiven, Met, among_blocks, gave_same, met_outside, never_both, one_met, some_same}

-- Two modules that are the same for these variables. The variables are closed under what their assignments read.
pub record AreMatched (m w : Module) (outer : Frames) (C : ℕ → Type 0) : Type 0 where
  pub fixed : m.program.fixed ≡ w.program.fixed
  pub limit : m.limit ≡ w.limit
  pub overrides : (n : ℕ) → C n → m.overrides n ≡ w.overrides n
  pub assignments : (n : ℕ) → C n → assignment_numbered m.assignments.all n ≡ assignment_numbered w.assignments.all n
  pub functions : (a : Assignment) → C a.number → IsEvaluated m outer a → (name : Text) → Reaches m.program.functions a.value name
      → function_at m.program.functions name ≡ function_at w.program.functions name
  pub closed : (a : Assignment) → C a.number → IsEvaluated m outer a → (n : ℕ) → Reads m.program.functions a.value n → C n

-- what is reached in one file is reached in another that defines it in the same way
reaches_same : (functions others : List Function) {e : Expr} {name : Text} → Reaches functions e name
    → ((g : Text) → Reaches functions e g → function_at functions g ≡ function_at others g) → Reaches others e name
reaches_same functions others (Here n h) same = Here n h
reaches_same functions others (Later g n h f found r) same =
    Later g n h f (sym (same g (Here n h)) ∙ found) (reaches_same functions others r (λ k z. same k (Later g n h f found z)))

reads_same : (functions others : List Function) (e : Expr) (n : ℕ) → ((g : Text) → Reaches functions e g → function_at functions g ≡ function_at others g)
    → Reads functions e n → Reads others e n
reads_same functions others e n same (inl own) = inl own
reads_same functions others e n same (inr r) =
    inr (record {
      name = r.name;
      function = r.function;
      reached = reaches_same functions others r.reached same;
      found = sym (same r.name r.reached) ∙ r.found;
      occurs = r.occurs;
      beyond = r.beyond;
    })

pub gave_on : {A : Type 0} (v : A) (o : Outcome A) → o ≡ Gave v → o ≢ Stopped
gave_on v o e z = absurd (cc)

-- the value of an assignment under lexical scope, from all that it depends on
abbrev assigned_by : Fixed → List Function → ℕ → Option Text → Frames → Assignment → Tree Value
assigned_by fixed functions limit o frames a =
    or_override o
    (eval (record { fixed = fixed; functions = functions }) (lexical (record { fixed = fixed; functions = functions }) (value_in frames) (limit - 1))
    (situation_at fixed.settings.lists frames) a.value)

module _ (m w : Module) (outer : Frames) (C : ℕ → Type 0) (matched : AreMatched m w outer C) where
  -- if frames agree on what an assignment reads
  assigned_alike : (a : Assignment) (frames others : Frames) → C a.number → assignment_numbered m.assignments.all a.number ≡ Some a
      → value_in outer a.number ≡ None
      → (IsEvaluated m outer a → (n : ℕ) → Reads m.program.functions a.value n → value_in frames n ≡ value_in others n)
      → Alike Whole (assigned lexically m frames a) (assigned lexically w others a)
  assigned_alike a frames others among found unbound names =
      subst (λ fixed. Alike Whole (assigned lexically m frames a) (assigned_by fixed w.program.functions w.limit (w.overrides a.number) others a)) matched.fixed
      (subst (λ limit. Alike Whole (assigned lexically m frames a) (assigned_by m.program.fixed w.program.functions limit (w.overrides a.number) others a))
      matched.limit
      (subst (λ o. Alike Whole (assigned lexically m frames a) (assigned_by m.program.fixed w.program.functions m.limit o others a))
      (matched.overrides a.number among)
      (alike_override (m.overrides a.number) (λ free. evaluated (record { found = found; free = free; unbound = unbound })))))
    where
      evaluated : IsEvaluated m outer a → Alike Whole (assigned_by m.program.fixed m.program.functions m.limit None frames a)
          (assigned_by m.program.fixed w.program.functions m.limit None others a)
      evaluated e =
          alike_lexical m.program.fixed m.program.functions w.program.functions (value_in frames) (value_in others) (m.limit - 1)
          (situation_at m.program.fixed.settings.lists frames) (value_in others) others others a.value
          (matched.functions a among e) (λ n h. names e n (inl h)) (λ n h. names e n (inr h))

  module _ (bs cs : List Block) (met : (c : Block) → IsIn cs c → Met w outer cs c) (talk : AreAnsweredAlike (events_of bs) (events_of cs)) where
    abbrev Agrees : Block → Type 0
    Agrees b = (c : Block) → IsIn cs c → C b.number → b.number ≡ c.number → b.outcome ≢ Stopped → c.outcome ≢ Stopped → (b.outcome ≡ c.outcome)
        × AreSame b.events c.events

    abbrev AllAgree : List Block → Type 0
    AllAgree before = (b : Block) → IsIn before b → Agrees b × (value_in outer b.number ≡ None)

    one_value : (before : List Block) → AllAgree before → (k : ℕ) → C k → (v u : Value) → IsGiven outer before k v → IsGiven outer cs k u → v ≡ u
    one_value before agreed k among v u (inl out) (inl out') = some_same v u (sym out ∙ out')
    one_value before agreed k among v u (inl out) (inr (c, at, number, gave)) =
        absurd (never_both v (value_in outer k) out (subst (λ n. value_in outer n ≡ None) number (met_outside w outer cs c (met c at))))
    one_value before agreed k among v u (inr (b, at, number, gave)) (inl out) =
        absurd (never_both u (value_in outer k) out (subst (λ n. value_in outer n ≡ None) number (agreed b at).1))
    one_value before agreed k among v u (inr (b, at, number, gave)) (inr (c, at', number', gave')) =
        gave_same v u
        (sym gave ∙ ((agreed b at).0 c at' (subst C (sym number) among) (number ∙ sym number') (gave_on v b.outcome gave) (gave_on u c.outcome gave')).0
        ∙ gave')

    agree_here : (before : List Block) → AllAgree before → (b : Block) → Met m outer before b → IsIn bs b → Agrees b
    agree_here before agreed b k own c at among number here there =
        alike_paths
        (assigned_alike k.assignment (k.frame ∷ outer) (l.frame ∷ outer) among' k.found
        (subst (λ n. value_in outer n ≡ None) (sym k.number) (met_outside m outer before b k)) names)
        k.path (subst (λ a. Path freely (assigned lexically w (l.frame ∷ outer) a) c.events c.outcome) (sym same) l.path) here there
        (λ e f i j. talk e f (among_blocks bs b own e i) (among_blocks cs c at f j))
      where
        l : Met w outer cs c
        l = met c at

        among' : C k.assignment.number
        among' = subst C (sym k.number) among

        same : k.assignment ≡ l.assignment
        same = some_same k.assignment l.assignment (sym k.found ∙ matched.assignments k.assignment.number among' ∙ ap (assignment_numbered w.assignments.all)
            (k.number ∙ number ∙ sym l.number) ∙ l.found)

        names : IsEvaluated m outer k.assignment → (n : ℕ) → Reads m.program.functions k.assignment.value n
            → value_in (k.frame ∷ outer) n ≡ value_in (l.frame ∷ outer) n
        names e n r =
            let v = k.reads n r in
            let u = l.reads n (reads_same m.program.functions w.program.functions l.assignment.value n
            (subst (λ a. (g : Text) → Reaches m.program.functions a.value g → function_at m.program.functions g ≡ function_at w.program.functions g) same
            (matched.functions k.assignment among' e)) (subst (λ a. Reads m.program.functions a.value n) same r)) in
            v.1 ∙ ap Some (one_value before agreed n (matched.closed k.assignment among' e n r) v.0 u.0 (k.given n v.0 v.1) (l.given n u.0 u.1)) ∙ sym u.1

    agree_all : (before ds : List Block) → AllAgree before → ((b : Block) → IsIn ds b → IsIn bs b) → AllMet m outer before ds → (b : Block)
        → IsIn ds b → Agrees b
    agree_all before [] agreed within h b at = absurd at
    agree_all before (d ∷ ds) agreed within h b (inl same) = subst Agrees same (agree_here before agreed d h.0 (within d (inl refl)))
    agree_all before (d ∷ ds) agreed within h b (inr later) = agree_all (d ∷ before) ds more (λ c at. within c (inr at)) h.1 b later
      where
        first : Agrees d × (value_in outer d.number ≡ None)
        first = (agree_here before agreed d h.0 (within d (inl refl)), met_outside m outer before d h.0)

        more : AllAgree (d ∷ before)
        more c (inl same) = subst (λ (x : Block). Agrees x × (value_in outer x.number ≡ None)) same first
        more c (inr at) = agreed c at

-- Two resolved runs agree on the blocks of such variables that they both reach.
pub blocks_agree : (m w : Module) (outer : Frames) (C : ℕ → Type 0) → AreMatched m w outer C → (bs cs : List Block) → AllMet m outer [] bs
    → AllMet w outer [] cs → AreAnsweredAlike (events_of bs) (events_of cs)
    → (b c : Block) → IsIn bs b → IsIn cs c → C b.number → b.number ≡ c.number → b.outcome ≢ Stopped → c.outcome ≢ Stopped → (b.outcome ≡ c.outcome)
    × AreSame b.events c.events
blocks_agree m w outer C matched bs cs one other talk b c at at' among number here there =
    agree_all m w outer C matched bs cs (λ d i. one_met w outer [] cs cs d (λ x none. absurd none) (λ x h. h) other i) talk [] bs (λ x none. absurd none)
    (λ x h. h) one b at c at' among number here there
