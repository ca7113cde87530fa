-- What evaluating one assignment means, in a run and in a const stage.
use Rattle.std.proofs.Common.{◌≡◌, ℕ, Bool, true, false, cond, nat_eq, [], ◌∷◌, Option, Some, None, Result, Ok, Err, IsErrAnd, refl, sym, ap, ◌∙◌, subst}
use Rattle.std.specs.List.{list_any}
use Rattle.std.specs.Option.{ForSome}
use mathlib.Core.Path.{fun_ext}
use Rattle.just_eval.specs.Prelude.{Assigned, Assignment, Closing, Const, ConstRefusal, Constants, Frames, Gave, IsBound, IsConstEval, IsFinal, IsSameButScope}
use Rattle.just_eval.specs.Prelude.{Behaves, Module, OpensOrEnds, Outcome, Refusal, Refused, Rules, StageState, Staged, Step, Stopped, Token, Tree}
use Rattle.just_eval.specs.Prelude.{UnlessStopped, Value, WasBound, assigned, assignment_at, at_start, compile_refusal, const_ended, const_meaning, constantly}
use Rattle.just_eval.specs.Prelude.{ended, frames_view, freely, innermost, or_override, refusal, stage_state_of, turn, unchecked, with_open, without_value}
use Rattle.just_syntax.proofs.Maps.{number_with}
use Rattle.just_value.specs.declared.compile_error.CompileError.{CompileError}
use Rattle.just_value.specs.declared.error.Error.{Error}
use Rattle.just_interaction.proofs.Paths.{path_cut}
use Rattle.just_expression.proofs.Exits.{exit_is}
use Rattle.just_soundness.proofs.Constants.{HasConstOutcome, OfSome, const_override, const_outcome, eval_alike}
use Rattle.just_eval.specs.View.{IsRefused, IsStopped, Opens, Ends}
use Rattle.just_eval.specs.declared.evaluator.Evaluator.{Evaluator}
use Rattle.just_eval.proofs.Module.{turn_binds, turn_fails, turn_skips}
use Rattle.just_eval.proofs.Stages.{staged_breaks, staged_opens, staged_settles, staged_skips, staged_stops}

module _ {S : Type 0} {rules : Rules} {step : Step S} {old new : S} {tree : Tree Value} {export : Bool} {a : Assignment} {frames : Frames} where
  pub assigned_none : (e : Option Refusal) → innermost a.number frames ≡ None → Behaves rules step unchecked old tree (without_value e) new
      → Assigned rules step old tree export a frames (without_value e) new
  assigned_none (Some r) u runs = IsRefused r u runs
  assigned_none None u runs = IsStopped u runs

  -- the exit of a `?`
  pub assigned_exit : {X : Type 0} (f : X → Frames) (r : Result X Error) (e : Error) → IsErrAnd r (λ d. d ≡ e)
      → Assigned rules step old tree export a frames (without_value (refusal e)) new → Assigned rules step old tree export a frames (ended f r) new
  assigned_exit f r e is h = rw (exit_is f r e is) h

  -- memory runs out after the value
  pub assigned_cut : (v : Value) → innermost a.number frames ≡ None → Behaves rules step unchecked old tree (Gave v) new
      → Assigned rules step old tree export a frames Stopped new
  assigned_cut v u r = IsStopped u (record { events = r.events; path = path_cut r.path; chain = r.chain })

-- ---- in a run

pub turn_assigned : {S : Type 0} {step : Step S} {old new : S} (closing : Closing) (m : Module) (frames : Frames) (t : Token) (a : Assignment)
    {o : Outcome Frames} → assignment_at m.assignments t.lexeme ≡ Some a → m.assignments.referenced a.number ≡ true
    → Assigned freely step old (assigned closing m frames a) m.program.fixed.settings.export a frames o new
    → Behaves freely step unchecked old (turn closing m frames t) o new
turn_assigned closing m frames t a found referenced (WasBound b e) = turn_skips closing m frames t a found b referenced e
turn_assigned closing m frames t a found referenced (IsBound v u r) =
    turn_binds closing m frames t a (record { found = found; referenced = referenced; unbound = u }) v _ refl r
turn_assigned closing m frames t a found referenced (IsRefused s u r) =
    turn_fails closing m frames t a (record { found = found; referenced = referenced; unbound = u }) (Some s) r
turn_assigned closing m frames t a found referenced (IsStopped u r) =
    turn_fails closing m frames t a (record { found = found; referenced = referenced; unbound = u }) None r

-- ---- in a const stage

-- an assignment's tree
abbrev own : Constants → StageState → Assignment → Tree Value
own m s a = or_override (m.overrides a.number) (const_meaning s a.value)

abbrev pub InStage : {S : Type 0} → Step S → Constants → StageState → Assignment → S → S → Outcome Frames → Type 0
InStage step m s a old new o = Assigned (constantly s.is_open) step old (own m s a) false a s.frames o new

module _ {S : Type 0} {step : Step S} (m : Constants) (s : StageState) (a : Assignment) where
  determined : {old new : S} (o : Outcome Value) → Behaves (constantly s.is_open) step unchecked old (own m s a) o new
      → HasConstOutcome s.is_open (own m s a) o old new
  determined o r = const_outcome s.is_open _ o (const_override IsConstEval s.is_open (m.overrides a.number) _ (eval_alike s.is_open _ _ _ a.value)) r

  -- such a refusal is one of constant evaluation
  pub few_assigned : {old new : S} (e : Option Refusal) → InStage step m s a old new (without_value e) → OfSome IsConstEval e
  few_assigned (Some r) (IsRefused _ u runs) = (determined (Refused r) runs).few
  few_assigned None h = tt

  module _ (t : Token) (found : assignment_at m.assignments t.lexeme ≡ Some a) (referenced : m.assignments.referenced a.number ≡ true)
      (unopened : s.is_open a.number ≡ false) where
    pub staged_gave : {old new : S} {frames : Frames} → InStage step m s a old new (Gave frames)
        → Staged m s (t ∷ []) (Gave (record { lists = s.lists; frames = frames; is_open = s.is_open }))
    staged_gave (WasBound b e) = staged_skips s t a found referenced b e
    staged_gave (IsBound v u r) =
        staged_settles s t a (record { found = found; referenced = referenced; unbound = u; unopened = unopened }) v (sym (determined (Gave v) r).determined)

    staged_const : {old new : S} (c : ConstRefusal) → InStage step m s a old new (Refused (Const c)) → Staged m s (t ∷ []) (Gave (with_open s a.number))
    staged_const c (IsRefused _ u r) = staged_opens s t a (record { found = found; referenced = referenced; unbound = u; unopened = unopened }) c
        (sym (determined (Refused (Const c)) r).determined)

    staged_other : {old new : S} (e : Option Refusal) → ForSome e IsFinal → InStage step m s a old new (without_value e) → Staged m s (t ∷ []) (without_value e)
    staged_other (Some r) final (IsRefused _ u runs) = staged_breaks s t a (record { found = found; referenced = referenced; unbound = u; unopened = unopened })
        r (final r refl) (sym (determined (Refused r) runs).determined)
    staged_other None final h = staged_stops s (t ∷ [])

    opened : {old new : S} (c : ConstRefusal) (o : Outcome StageState) → InStage step m s a old new (Refused (Const c))
        → UnlessStopped o (Gave (with_open s a.number)) → Staged m s (t ∷ []) o
    opened c (Gave x) h is = subst (Staged m s (t ∷ [])) (sym is) (staged_const c h)
    opened c (Refused r) h is = absurd (cc)
    opened c Stopped h is = staged_stops s (t ∷ [])

    pub staged_refused : {old new : S} (e : Option Refusal) (o : Outcome StageState) → InStage step m s a old new (without_value e) → OpensOrEnds e s a.number o
        → Staged m s (t ∷ []) o
    staged_refused {old = old} {new = new} e o h (Opens c is up) = opened c o (subst (λ e. InStage step m s a old new (without_value e)) is h) up
    staged_refused e o h (Ends final is) = subst (Staged m s (t ∷ [])) (sym is) (staged_other e final h)

-- ---- standings of evaluators

pub stage_state_start : (e : Evaluator) (lists : Bool) (outer : Frames) → e.lists ≡ lists → frames_view e.scope ≡ [] ∷ outer
    → ((n : ℕ) → (stage_state_of e).is_open n ≡ false) → stage_state_of e ≡ at_start lists outer
stage_state_start e lists outer same frames none = λ i. record { lists = same i; frames = frames i; is_open = fun_ext none i }

pub stage_state_same : (e f : Evaluator) → IsSameButScope e f
    → stage_state_of f ≡ record { lists = e.lists; frames = frames_view f.scope; is_open = (stage_state_of e).is_open }
stage_state_same e f same =
    ap (λ l. record { lists = l; frames = frames_view f.scope; is_open = (stage_state_of f).is_open }) same.lists
    ∙ ap (λ set. record { lists = e.lists; frames = frames_view f.scope; is_open = λ n. list_any (nat_eq n) set.keys }) same.open_numbers

-- the exit of a `?` after a failed allocation
pub opened_exit : {X : Type 0} (f : X → StageState) (r : Result X CompileError) (e : CompileError) (w : Outcome StageState) → IsErrAnd r (λ d. d ≡ e)
    → UnlessStopped (without_value (compile_refusal e)) w → UnlessStopped (const_ended f r) w
opened_exit f (Ok x) e w is h = absurd is
opened_exit f (Err d) e w is h = rw is h

pub stage_state_kept : (e f : Evaluator) → IsSameButScope e f → frames_view f.scope ≡ frames_view e.scope → stage_state_of f ≡ stage_state_of e
stage_state_kept e f same kept = stage_state_same e f same ∙ ap (λ fs. record { lists = e.lists; frames = fs; is_open = (stage_state_of e).is_open }) kept

pub stage_state_opened : (e f : Evaluator) (n : ℕ) → f.lists ≡ e.lists → frames_view f.scope ≡ frames_view e.scope
    → ((k : ℕ) → list_any (nat_eq k) f.non_const_assignments.keys ≡ cond (nat_eq n k) true (list_any (nat_eq k) e.non_const_assignments.keys))
    → stage_state_of f ≡ with_open (stage_state_of e) n
stage_state_opened e f n lists frames put =
    ap (λ l. record { lists = l; frames = frames_view f.scope; is_open = (stage_state_of f).is_open }) lists
    ∙ ap (λ fs. record { lists = e.lists; frames = fs; is_open = (stage_state_of f).is_open }) frames
    ∙ ap (λ is_open. record { lists = e.lists; frames = frames_view e.scope; is_open = is_open })
    (fun_ext (λ k. put k ∙ number_with n k (list_any (nat_eq k) e.non_const_assignments.keys)))
