-- Steps of a run: with any recursion limit, under lexical scope, and one after another.
use Rattle.std.specs.Borrow.{Bor}
use Rattle.std.specs.HashSet.{HashSet}
use Rattle.std.proofs.Common.{◌≡◌, inl, inr, ℕ, ◌-◌, List, Option, Some, None, [], ◌∷◌, ◌++◌, Result, Ok, Err, OnOk, ap, subst, sym, refl, max, arith}
use Rattle.just_syntax.specs.Plain.{Token}
use Rattle.just_value.specs.declared.error.Error.{Error}
use Rattle.just_eval.specs.Prelude.{Assignment, Behaves, Frames, Gave, IsIn, IsNext, IsNotInternal, IsResolvedRun, Module, Outcome, ReachedFrames, Refused}
use Rattle.just_eval.specs.Prelude.{Step, Stopped, assigned, assignment_at, dynamically, ended, freely, lexically, module_view, run, turn, unchecked}
use Rattle.just_eval.specs.Prelude.{with_limit}
use Rattle.just_host.specs.declared.execution_context.ExecutionContext.{ExecutionContext}
use Rattle.just_host.specs.Interaction.{Event, Path}
use Rattle.just_meaning.specs.Closings.{dynamic}
use Rattle.just_meaning.specs.Meaning.{eval}
use Rattle.just_meaning.specs.Module.{is_taken, or_override, situation_at, turn_of}
use Rattle.just_soundness.proofs.Overridden.{dynamic_turn, resolved_is_never_internal}
use Rattle.just_soundness.proofs.Turns.{turn_by}
use Rattle.just_eval.proofs.Module.{path_more, path_then, path_turn}

-- ---- recursion limits

-- the same inputs, with another limit
abbrev pub limited : ℕ → Module → Module
limited limit m = record { program = m.program; assignments = m.assignments; limit = limit; overrides = m.overrides }

module _ (m : Module) (limit : ℕ) (same : limit - 1 ≡ m.limit - 1) where
  assigned_limited : (frames : Frames) (a : _) → assigned dynamically (limited limit m) frames a ≡ assigned dynamically m frames a
  assigned_limited frames a i =
      or_override (m.overrides a.number)
      (eval m.program (dynamic m.program (same i)) (situation_at m.program.fixed.settings.lists frames) a.value)

  turn_limited : (frames : Frames) (t : Token) (x : Option Assignment) → turn_of dynamically (limited limit m) frames t x ≡ turn_of dynamically m frames t x
  turn_limited frames t None = refl
  turn_limited frames t (Some a) = ap (turn_by m frames a (is_taken m frames a)) (assigned_limited frames a)

at_least_one : (limit : ℕ) → max limit 1 - 1 ≡ limit - 1
at_least_one limit = omega arith

-- a context with a limit of at least 1
pub turn_in : {S R : Type 0} {step : Step S} {old new : S} {o : Outcome Frames} (c d : ExecutionContext)
    (references : Option (Bor (HashSet ℕ R))) (frames : Frames) (t : Token) → d ≡ with_limit (max c.recursion_limit 1) c
    → Behaves freely step unchecked old (turn dynamically (module_view d references) frames t) o new
    → Behaves freely step unchecked old (turn dynamically (module_view c references) frames t) o new
turn_in {step = step} {old = old} {new = new} {o = o} c d references frames t is r =
    let m = module_view c references in
    let limit = max c.recursion_limit 1 in
    subst (λ u. Behaves freely step unchecked old u o new)
    (turn_limited m limit (at_least_one c.recursion_limit) frames t (assignment_at m.assignments t.lexeme))
    (subst (λ context. Behaves freely step unchecked old (turn dynamically (module_view context references) frames t) o new) is r)

-- ---- one step after another

in_middle : (done left : List Token) (t : Token) → IsIn (done ++ t ∷ left) t
in_middle [] left t = inl refl
in_middle (u ∷ done) left t = inr (in_middle done left t)

module _ (m : Module) (outer : Frames) (resolved : IsResolvedRun m outer) (t : Token) where
  -- the turn of a name of the order under lexical scope
  pub turn_lexical : {S : Type 0} {step : Step S} {old new : S} (frames : Frames) {o : Outcome Frames} → IsIn m.assignments.order t
      → Behaves freely step unchecked old (turn dynamically m frames t) o new → Behaves freely step unchecked old (turn lexically m frames t) o new
  turn_lexical {step = step} {old = old} {new = new} frames {o} among r =
      subst (λ u. Behaves freely step unchecked old u o new) (dynamic_turn m outer resolved t among frames) r

module _ (m : Module) (outer : Frames) (resolved : IsResolvedRun m outer) (t : Token) (done : List Token) {frames : Frames}
    (next : IsNext m outer done t frames) {es : List Event} where
  next_lexical : {o : Outcome Frames} → Path freely (turn dynamically m frames t) es o → Path freely (run lexically m frames (t ∷ [])) es o
  next_lexical {o} path =
      path_turn lexically m frames t (subst (λ u. Path freely u es o)
      (dynamic_turn m outer resolved t (subst (λ order. IsIn order t) (sym next.order) (in_middle done next.left t)) frames) path)

  next_reached : {made : Frames} → Path freely (turn dynamically m frames t) es (Gave made) → ReachedFrames lexically m outer (done ++ t ∷ []) made
  next_reached path = record {
    events = next.reached.events ++ es;
    path = path_then lexically m ([] ∷ outer) frames done (t ∷ []) next.reached.path (next_lexical path);
  }

  pub next_never : (o : Outcome Frames) → Path freely (turn dynamically m frames t) es o → IsNotInternal o
  next_never (Gave made) path = tt
  next_never (Refused s) path =
      resolved_is_never_internal m outer (next.reached.events ++ es) (Refused s) resolved
      (subst (λ order. Path freely (run lexically m ([] ∷ outer) order) (next.reached.events ++ es) (Refused s)) (sym next.order)
      (path_then lexically m ([] ∷ outer) frames done (t ∷ next.left) next.reached.path
      (path_more lexically m frames (t ∷ []) next.left (Some s) (next_lexical path))))
  next_never Stopped path = tt

  pub reached_if_ok : (made : Frames) (result : Result Unit Error) → Path freely (turn dynamically m frames t) es (ended (λ _. made) result)
      → OnOk result (ReachedFrames lexically m outer (done ++ t ∷ []) made)
  reached_if_ok made (Ok x) path = next_reached path
  reached_if_ok made (Err e) path = tt
