-- Soundness of constant evaluation: a run of the same module confirms what a const stage finds.
use Rattle.std.proofs.Common.{◌≡◌, ◌≢◌, inl, inr, ℕ, zero, suc, ◌-◌, Bool, true, false, List, [], ◌∷◌, map, Some, None, if◌then◌else◌, refl, sym, ap, ◌∙◌}
use Rattle.std.proofs.Common.{subst}
use Rattle.just_syntax.specs.Plain.{Assignment}
use Rattle.just_syntax.specs.Lists.{IsIn}
use Rattle.just_syntax.proofs.Lists.{in_of, of_in}
use Rattle.just_value.specs.ConstRefusal.{ConstRefusal, Backtick, FunctionCall, Variable}
use Rattle.just_value.specs.Value.{Value, Names}
use Rattle.just_value.specs.Frames.{Frames, value_in}
use Rattle.just_value.specs.Refusal.{Refusal, Const}
use Rattle.just_value.specs.Outcome.{Outcome, Gave, Refused, Stopped}
use Rattle.just_host.specs.Interaction as interaction
use Rattle.just_host.specs.Interaction.{Note, Read, Entered, Command, Event, Noted, Tree, Path, Ends, Notes, Shuts, freely}
use Rattle.just_meaning.specs.Closings.{lexical, inside}
use Rattle.just_meaning.specs.Constant.{constant, constantly, nowhere, unless_refused}
use Rattle.just_meaning.specs.Internal.{IfRefused, IsFinal}
use Rattle.just_meaning.specs.Meaning.{Program, AtLimit, eval}
use Rattle.just_meaning.specs.Blocks.{Block, blocks_of}
use Rattle.just_meaning.specs.Module.{Module, assigned, lexically, or_override, situation_at}
use Rattle.just_syntax.specs.Occurrences.{CallOf, CommandOf, Mention, VariableOf}
use Rattle.just_meaning.specs.Reaches.{Occurs}
use Rattle.just_meaning.specs.Stage.{Constants, Found, at_start, const_meaning, stage_found}
use Rattle.just_meaning.proofs.Distinct.{distinct_front}
use Rattle.just_interaction.proofs.Ends.{AllEnd}
use Rattle.just_soundness.proofs.Final.{IsFinalDeeper, final_eval}
use Rattle.just_soundness.proofs.Refused.{refused_override}
use Rattle.just_laws.specs.Predicted.{AreConstant, AreOfOneModule, ConstAgrees, Predicts, is_found_open, is_shut, whole_found}
use Rattle.just_laws.specs.Cone.{assignment_numbered}
use Rattle.just_soundness.proofs.Alike.{Alike, Sight, Done, Both, Same, SameCheck, UpTo, ReadsAlike, alike_eval, alike_override}
use Rattle.just_laws.proofs.Blocks.{AllMet, IsGiven, Met, all_met, by_blocks, gave_same, met_outside, never_both, some_same}
use Rattle.just_laws.proofs.Agreed.{gave_on}
use Rattle.just_laws.proofs.Stages as stages
use Rattle.just_laws.proofs.Stages.{IsFound, MetConst, found_outside, stage_state, staging}

-- ---- traces

abbrev numbered_block : ℕ → List Event → Outcome Value → Block
numbered_block n es o = record { number = n; events = es; outcome = o }

-- any other refusal is the same in both
predicts_refused : (is_open : ℕ → Bool) (n : ℕ) (es : List Event) (r : Refusal) → IsFinal r → AreConstant is_open es
    → Predicts is_open (Refused r) (numbered_block n es (Refused r))
predicts_refused is_open n es (Const c) h k = absurd h
predicts_refused is_open n es _ h k = (refl, k)

-- one more note that the const rules allow, before what is foretold
predicts_note : (is_open : ℕ → Bool) (x : Note) (o : Outcome Value) (n : ℕ) (es : List Event) (p : Outcome Value) → is_shut is_open x ≡ false
    → Predicts is_open o (numbered_block n es p) → Predicts is_open o (numbered_block n (Noted x ∷ es) p)
predicts_note is_open x (Gave v) n es p e h = (h.0, (e, h.1))
predicts_note is_open x (Refused (Const c)) n es p e h = inr h
predicts_note is_open x (Refused _) n es p e h = (h.0, (e, h.1))
predicts_note is_open x Stopped n es p e h = tt

-- exactly these notes are refused by the const rules
refused_shut : (is_open : ℕ → Bool) (x : Note) → is_shut is_open x ≡ true → (c : ConstRefusal) × (constantly is_open x ≡ Some (Const c))
refused_shut is_open (Read t n) e = (Variable t, ap (λ b. if b then Some (Const (Variable t)) else None) e)
refused_shut is_open (Entered t) e = (FunctionCall t, refl)
refused_shut is_open (Command t) e = (Backtick t, refl)
refused_shut is_open _ e = absurd (cc)

passed_open : (is_open : ℕ → Bool) (x : Note) → is_shut is_open x ≡ false → constantly is_open x ≡ None
passed_open is_open (Read t n) e = ap (λ b. if b then Some (Const (Variable t)) else None) e
passed_open is_open (Entered t) e = absurd (cc)
passed_open is_open (Command t) e = absurd (cc)
passed_open is_open _ e = refl

-- up to what the const rules refuse, with the open numbers of each tree
abbrev UpToShut : (ℕ → Bool) → (ℕ → Bool) → Sight
UpToShut one other = UpTo (is_shut one) (is_shut other)

module _ (one other : ℕ → Bool) (n : ℕ) where
  predicted_note : (x : Note) (o : Outcome Value) (es : List Event) (p : Outcome Value) (b : Bool) → is_shut one x ≡ b → is_shut one x ≡ is_shut other x
      → (is_shut one x ≡ false → Predicts other o (numbered_block n es p))
      → Predicts other (unless_refused (constantly one x) o) (numbered_block n (Noted x ∷ es) p)
  predicted_note x o es p true e same h =
      let c = refused_shut one x e in
      subst (λ r. Predicts other (unless_refused r o) (numbered_block n (Noted x ∷ es) p)) (sym c.1) (inl (sym same ∙ e))
  predicted_note x o es p false e same h = subst (λ r. Predicts other (unless_refused r o) (numbered_block n (Noted x ∷ es) p)) (sym (passed_open one x e))
      (predicts_note other x o n es p (sym same ∙ e) (h e))

  -- the outcome of a tree under the const rules foretells the traces of one that is alike up to what they refuse
  predicted : {t u : Tree Value} {es : List Event} {p : Outcome Value} → Alike (UpToShut one other) t u → AllEnd (IfRefused IsFinal) u → Path freely u es p
      → p ≢ Stopped → Predicts other (constant one t) (numbered_block n es p)
  predicted (Done {o = Gave v}) final Ends on = (refl, tt)
  predicted (Done {o = Refused r}) final Ends on = predicts_refused other n [] r final tt
  predicted (Done {o = Stopped}) final Ends on = tt
  predicted (Same {x = x} {t = t} steady k) final (Notes {es = es} {o = end} e p) on =
      predicted_note x (constant one t) es end (is_shut one x) refl steady (λ e. predicted (k e) final p on)
  predicted (Both whole e k) final p on = absurd whole
  predicted (SameCheck whole k) final p on = absurd whole
  predicted a final interaction.Stops on = absurd (on refl)
  predicted a final (Shuts e) on = absurd (cc)

-- ---- no outcome of a run's tree is a refusal of the const rules

final_lexical : (c : Program) (base : Names) (n : ℕ) → IsFinalDeeper (lexical c base n)
final_lexical c base zero = tt
final_lexical c base (suc n) = λ f s vs. final_eval c (inside base s f vs) (lexical c base n) (final_lexical c base n) f.body

final_assigned : (m : Module) (frames : Frames) (a : Assignment) → AllEnd (IfRefused IsFinal) (assigned lexically m frames a)
final_assigned m frames a =
    refused_override IsFinal (m.overrides a.number) _ (final_eval m.program (situation_at m.program.fixed.settings.lists frames) (lexically m frames)
    (final_lexical m.program (value_in frames) (m.limit - 1)) a.value)

-- ---- the blocks of a run

module _ (m : Constants) (lists : Bool) (outer : Frames) (n : Module) (others : Frames) (same : AreOfOneModule m lists outer n others) (ends : ℕ → Bool)
    (fs : List Found) (met : (f : Found) → IsIn fs f → MetConst m lists outer ends fs f) where
  -- the tree of an assignment in the stage is alike to its tree in the run, up to what the const rules refuse
  assigned_alike : (f : Found) (k : MetConst m lists outer ends fs f) (frames : Frames)
      → ((j : ℕ) → Occurs k.assignment.value (VariableOf (Some j)) → k.opened j ≡ false → value_in (k.frame ∷ outer) j ≡ value_in frames j)
      → Alike (UpToShut k.opened ends)
      (or_override (m.overrides k.assignment.number) (const_meaning (stage_state lists outer k.frame k.opened) k.assignment.value))
      (assigned lexically n frames k.assignment)
  assigned_alike f k frames names =
      subst (λ o. Alike (UpToShut k.opened ends) (or_override (m.overrides a.number) (const_meaning (stage_state lists outer k.frame k.opened) a.value))
      (or_override o (eval n.program (lexically n frames) (situation_at n.program.fixed.settings.lists frames) a.value))) (same.overrides a.number)
      (alike_override (m.overrides a.number) (λ free.
      alike_eval (UpToShut k.opened ends) nowhere n.program AtLimit (lexically n frames) (situation_at lists (k.frame ∷ outer))
      (situation_at n.program.fixed.settings.lists frames) same.same_lists (λ name. Unit {0})
      (λ text t. Same refl (λ e. absurd (cc))) (λ t es reached h. Same refl (λ e. absurd (cc))) a.value same_reads))
    where
      a : Assignment
      a = k.assignment

      same_reads : (x : Mention) → Occurs k.assignment.value x
          → ReadsAlike (UpToShut k.opened ends) (λ name. Unit {0}) (value_in (k.frame ∷ outer)) (value_in frames) x
      same_reads (CommandOf text) h = tt
      same_reads (VariableOf None) h = tt
      same_reads (VariableOf (Some j)) h = λ t. (k.steady j h, names j h)
      same_reads (CallOf name i) h = tt

  abbrev Bears : Block → Type 0
  Bears b = (f : Found) → IsIn fs f → f.number ≡ b.number → b.outcome ≢ Stopped → Predicts ends f.outcome b

  abbrev AllBear : List Block → Type 0
  AllBear before = (b : Block) → IsIn before b → Bears b × (value_in others b.number ≡ None)

  one_value : (before : List Block) → AllBear before → (j : ℕ) (v u : Value) → IsFound outer fs j v → IsGiven others before j u → v ≡ u
  one_value before borne j v u (inl out) (inl out') = some_same v u (sym out ∙ same.values j ∙ out')
  one_value before borne j v u (inl out) (inr (b, at, number, gave)) =
      absurd (never_both v (value_in others j) (sym (same.values j) ∙ out) (subst (λ i. value_in others i ≡ None) number (borne b at).1))
  one_value before borne j v u (inr (f, at, number, gave)) (inl out) =
      absurd (never_both u (value_in outer j) (same.values j ∙ out)
      (subst (λ i. value_in outer i ≡ None) number (found_outside m lists outer ends fs f (met f at))))
  one_value before borne j v u (inr (f, at, number, gave)) (inr (b, at', number', gave')) =
      let borne_out : Predicts ends (Gave v) b =
      subst (λ o. Predicts ends o b) gave ((borne b at').0 f at (number ∙ sym number') (gave_on u b.outcome gave')) in
      gave_same v u (sym borne_out.0 ∙ gave')

  bear_here : (before : List Block) → AllBear before → (b : Block) → Met n others before b → Bears b
  bear_here before borne b l f at number on =
      subst (λ o. Predicts ends o b) k.comes
      (predicted k.opened ends b.number (assigned_alike f k (l.frame ∷ others) names) (final_assigned n (l.frame ∷ others) k.assignment)
      (subst (λ a. Path freely (assigned lexically n (l.frame ∷ others) a) b.events b.outcome) (sym one) l.path) on)
    where
      k : MetConst m lists outer ends fs f
      k = met f at

      one : k.assignment ≡ l.assignment
      one = some_same k.assignment l.assignment (sym k.found ∙ ap (λ all. assignment_numbered all k.assignment.number) same.assignments
          ∙ ap (assignment_numbered n.assignments.all) (k.number ∙ number ∙ sym l.number) ∙ l.found)

      names : (j : ℕ) → Occurs k.assignment.value (VariableOf (Some j)) → k.opened j ≡ false → value_in (k.frame ∷ outer) j ≡ value_in (l.frame ∷ others) j
      names j h e =
          let v = k.has j h e in
          let u = l.reads j (inl (subst (λ a. Occurs a.value (VariableOf (Some j))) one h)) in
          v.1 ∙ ap Some (one_value before borne j v.0 u.0 (k.given j v.0 v.1) (l.given j u.0 u.1)) ∙ sym u.1

  bear_all : (before bs : List Block) → AllBear before → AllMet n others before bs → (b : Block) → IsIn bs b → Bears b
  bear_all before [] borne h b at = absurd at
  bear_all before (d ∷ ds) borne h b (inl here) = subst Bears here (bear_here before borne d h.0)
  bear_all before (d ∷ ds) borne h b (inr later) = bear_all (d ∷ before) ds more h.1 b later
    where
      more : AllBear (d ∷ before)
      more c (inl here) =
          subst (λ (x : Block). Bears x × (value_in others x.number ≡ None)) here (bear_here before borne d h.0, met_outside n others before d h.0)
      more c (inr at) = borne c at

pub const_agrees : ConstAgrees
const_agrees = record {
  states = stages.is_what_was_found;
  refusals = λ m lists outer r resolved e.
      let f = stages.ends_refused m lists outer (at_start lists outer) resolved.named (staging m (at_start lists outer) m.assignments.order) r e in
      (f.0, of_in (whole_found m lists outer) f.0 f.1, f.2);
  blocks = λ m lists outer n others names more es p is same before resolved path f b at at' number on.
      let fs = stage_found m (at_start lists outer) names in
      let bs = blocks_of es p in
      bear_all m lists outer n others same (is_found_open fs) fs (stages.all_met m lists outer names more is before) [] bs (λ c none. absurd none)
      (all_met n others (distinct_front (map (λ a. a.number) n.assignments.all) _ resolved.distinct) resolved.in_order
      (by_blocks n others n.assignments.order path)) b (in_of bs b at') f (in_of fs f at) number on;
}
