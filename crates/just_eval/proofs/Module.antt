-- How module runs are composed.
use Rattle.std.proofs.Common.{◌≡◌, ℕ, ◌+◌, ◌<◌, Bool, true, false, ◌&&◌, not, List, [], ◌∷◌, ◌++◌, Option, Some, None, map, drop, get_or}
use Rattle.std.proofs.Common.{add-one, drop-cons, if◌then◌else◌, length, refl, sym, ap, ◌∙◌, subst}
use Rattle.std.specs.Option.{is_some}
use mathlib.Core.Path.{fun_ext}
use Rattle.just_eval.specs.Prelude.{Assignment, Bound, Closing, Frames, Gave, Internal, IsNotInternal, IsResolvedRun, Module, Outcome}
use Rattle.just_eval.specs.Prelude.{Behaves, Refusal, Refused, RefusesWith, Step, Stopped, Token, Value, assigned, assignment_at, bind, bound_innermost}
use Rattle.just_eval.specs.Prelude.{dynamically, freely, gives, innermost, lexically, run, turn, unchecked, unknown_assignment_text, without_value}
use Rattle.just_host.specs.Interaction.{Ends, Event, Path}
use Rattle.just_interaction.proofs.Paths.{bind_bind, bind_gives, path_ends, path_on, runs_ends, runs_gives, runs_note, runs_on, runs_stopped}
use Rattle.just_meaning.specs.Module.{bound_in, evaluated, turn_of}
use Rattle.just_soundness.proofs.Overridden.{pending_calls_do_not_matter, resolved_is_never_internal}
use Rattle.just_soundness.proofs.Running.{IsTaken}

-- the rest begins with the item
pub front : {X Y : Type 0} (seen : X → Y) (items : List X) (i : ℕ) (d : X) → i < length items
    → map seen (drop i items) ≡ seen (get_or items i d) ∷ map seen (drop (i + 1) items)
front seen items i d fits = ap (map seen) (drop-cons items i d fits) ∙ ap (λ j. seen (get_or items i d) ∷ map seen (drop j items)) (sym (add-one i))

-- ---- traces

module _ (closing : Closing) (m : Module) where
  -- a run of more names goes on from the frames at the end of the first
  run_append : (frames : Frames) (left more : List Token)
      → run closing m frames (left ++ more) ≡ bind (run closing m frames left) (λ next. run closing m next more)
  run_append frames [] more = refl
  run_append frames (t ∷ left) more =
      ap (bind (turn closing m frames t)) (fun_ext (λ next. run_append next left more))
      ∙ bind_bind (turn closing m frames t) (λ next. run closing m next left) (λ next. run closing m next more)

  pub path_then : (frames mid : Frames) (left more : List Token) {es fs : List Event} {o : Outcome Frames}
      → Path freely (run closing m frames left) es (Gave mid) → Path freely (run closing m mid more) fs o
      → Path freely (run closing m frames (left ++ more)) (es ++ fs) o
  path_then frames mid left more {es} {fs} {o} p q =
      subst (λ t. Path freely t (es ++ fs) o) (sym (run_append frames left more)) (path_on (λ next. run closing m next more) p q)

  -- a run that ended is also a run of more assignments
  pub path_more : (frames : Frames) (left more : List Token) (e : Option Refusal) {es : List Event}
      → Path freely (run closing m frames left) es (without_value e) → Path freely (run closing m frames (left ++ more)) es (without_value e)
  path_more frames left more e {es} p =
      subst (λ t. Path freely t es (without_value e)) (sym (run_append frames left more)) (path_ends (λ next. run closing m next more) e p)

  -- a trace of one turn is one of a run
  pub path_turn : (frames : Frames) (t : Token) {es : List Event} {o : Outcome Frames} → Path freely (turn closing m frames t) es o
      → Path freely (run closing m frames (t ∷ [])) es o
  path_turn frames t {es} {o} p = subst (λ u. Path freely u es o) (sym (bind_gives (turn closing m frames t))) p

-- ---- the turn of one name

module _ {S : Type 0} {step : Step S} (closing : Closing) (m : Module) (frames : Frames) (t : Token) where
  pub turn_unknown : {h : S} (r : Option Refusal) → assignment_at m.assignments t.lexeme ≡ None → RefusesWith r (Internal (unknown_assignment_text t.lexeme) t)
      → Behaves freely step unchecked h (turn closing m frames t) (without_value r) h
  turn_unknown None f is = runs_stopped _
  turn_unknown {h = h} (Some r) f is =
      rw is (subst (λ x. Behaves freely step unchecked h (turn_of closing m frames t x) (Refused (Internal (unknown_assignment_text t.lexeme) t)) h) (sym f)
      (record { events = []; path = Ends; chain = refl }))

  -- the name is that of this assignment
  at_turn : {old new : S} {o : Outcome Frames} (a : Assignment) {r : Bool} {b : Option Bound} → assignment_at m.assignments t.lexeme ≡ Some a
      → m.assignments.referenced a.number ≡ r → innermost a.number frames ≡ b
      → Behaves freely step unchecked old (if r && not (is_some b) then evaluated closing m frames a else gives frames) o new
      → Behaves freely step unchecked old (turn closing m frames t) o new
  at_turn a found referenced bound r = rw (found, referenced, bound) r

  module _ (a : Assignment) (found : assignment_at m.assignments t.lexeme ≡ Some a) where
    pub turn_passes : {h : S} → m.assignments.referenced a.number ≡ false → Behaves freely step unchecked h (turn closing m frames t) (Gave frames) h
    turn_passes e = at_turn a found e refl (runs_gives frames)

    pub turn_skips : {h : S} (b : Bound) → m.assignments.referenced a.number ≡ true → innermost a.number frames ≡ Some b
        → Behaves freely step unchecked h (turn closing m frames t) (Gave frames) h
    turn_skips b e f = at_turn a found e f (runs_gives frames)

  module _ (a : Assignment) (taken : IsTaken m frames t a) where
    pub turn_binds : {old new : S} (v : Value) (made : Frames) → made ≡ bound_innermost frames (bound_in m a v)
        → Behaves freely step unchecked old (assigned closing m frames a) (Gave v) new
        → Behaves freely step unchecked old (turn closing m frames t) (Gave made) new
    turn_binds {old = old} {new = new} v made made_is r =
        at_turn a taken.found taken.referenced taken.unbound
        (subst (λ (x : Frames). Behaves freely step unchecked old (evaluated closing m frames a) (Gave x) new) (sym made_is)
        (runs_note refl (runs_on (assigned closing m frames a) _ r (runs_note refl (runs_gives _)))))

    pub turn_fails : {old new : S} (e : Option Refusal) → Behaves freely step unchecked old (assigned closing m frames a) (without_value e) new
        → Behaves freely step unchecked old (turn closing m frames t) (without_value e) new
    turn_fails e r = at_turn a taken.found taken.referenced taken.unbound (runs_note refl (runs_ends (assigned closing m frames a) _ e r))

-- ---- one turn after another

module _ (closing : Closing) (m : Module) (frames : Frames) {X : Type 0} (seen : X → Token) (items : List X) (i : ℕ) (d : X) (fits : i < length items) where
  left_is : run closing m frames (map seen (drop i items))
      ≡ bind (turn closing m frames (seen (get_or items i d))) (λ next. run closing m next (map seen (drop (i + 1) items)))
  left_is = ap (run closing m frames) (front seen items i d fits)

  pub run_next : {S : Type 0} {step : Step S} {old mid new : S} {inner : Frames} {o : Outcome Frames}
      → Behaves freely step unchecked old (turn closing m frames (seen (get_or items i d))) (Gave inner) mid
      → Behaves freely step unchecked mid (run closing m inner (map seen (drop (i + 1) items))) o new
      → Behaves freely step unchecked old (run closing m frames (map seen (drop i items))) o new
  run_next {step = step} {old = old} {new = new} {o = o} r q = subst (λ t. Behaves freely step unchecked old t o new) (sym left_is) (runs_on _ _ r q)

  pub run_ends : {S : Type 0} {step : Step S} {old new : S} (e : Option Refusal)
      → Behaves freely step unchecked old (turn closing m frames (seen (get_or items i d))) (without_value e) new
      → Behaves freely step unchecked old (run closing m frames (map seen (drop i items))) (without_value e) new
  run_ends {step = step} {old = old} {new = new} e r = subst (λ t. Behaves freely step unchecked old t (without_value e) new) (sym left_is) (runs_ends _ _ e r)

-- ---- laws

-- a run of a resolved module under dynamic scope is one under lexical scope
pub run_lexical : {S : Type 0} {step : Step S} {old new : S} (m : Module) (outer : Frames) (o : Outcome Frames) → IsResolvedRun m outer
    → Behaves freely step unchecked old (run dynamically m ([] ∷ outer) m.assignments.order) o new
    → Behaves freely step unchecked old (run lexically m ([] ∷ outer) m.assignments.order) o new
run_lexical m outer o resolved r =
    record { events = r.events; path = pending_calls_do_not_matter m outer r.events o resolved r.path; chain = r.chain }

pub run_never_internal : {S : Type 0} {step : Step S} {old new : S} (m : Module) (outer : Frames) (o : Outcome Frames) → IsResolvedRun m outer
    → Behaves freely step unchecked old (run lexically m ([] ∷ outer) m.assignments.order) o new → IsNotInternal o
run_never_internal m outer o resolved r = resolved_is_never_internal m outer r.events o resolved r.path
