-- The laws of runs, whatever the expressions of overridden assignments read: an override is as good as a literal.
use Rattle.std.proofs.Common.{◌≡◌, [], ◌∷◌, Option, Some, None, option_map, refl, ap, sym, subst, ◌∙◌}
use Rattle.just_syntax.specs.Plain.{Text, Token, Assignment, Expr}
use Rattle.just_syntax.specs.Lists.{IsIn}
use Rattle.just_value.specs.Frames.{Frames}
use Rattle.just_host.specs.Interaction.{Path, freely}
use Rattle.just_meaning.specs.Assignments.{assignment_at}
use Rattle.just_meaning.specs.Meaning.{Deeper, Program, Situation, eval}
use Rattle.just_meaning.specs.Module.{Closing, IsResolvedRun, Module, assigned, dynamically, is_taken, lexically, or_override, overridden, run, turn, turn_of}
use Rattle.just_meaning.specs.Module.{with_override, with_overrides}
use Rattle.just_meaning.proofs.Overridden.{found_after}
use Rattle.just_soundness.specs.Laws.{PendingCallsDoNotMatter, ResolvedIsNeverInternal}
use Rattle.just_soundness.proofs.Internal.{lexical_run_is_never_internal}
use Rattle.just_soundness.proofs.Lexical.{resolved_turn}
use Rattle.just_soundness.proofs.Running.{by_rules}
use Rattle.just_soundness.proofs.Turns.{same_run, turn_by}

-- the module with literals in place of what is overridden
abbrev pub with_literals : Module → Module
with_literals m = record m { assignments = with_overrides m.overrides m.assignments }

-- an overridden expression is not evaluated
override_same : (c : Program) (one other : Deeper) (s : Situation) (o : Option Text) (e : Expr) → one ≡ other
    → or_override o (eval c one s (overridden o e)) ≡ or_override o (eval c other s e)
override_same c one other s (Some text) e same = refl
override_same c one other s None e same = ap (λ d. eval c d s e) same

-- an override is as good as a literal: the turns are the same
module _ (closing : Closing) (m : Module) (same : (frames : Frames) → closing (with_literals m) frames ≡ closing m frames) where
  assigned_same : (frames : Frames) (a : Assignment)
      → assigned closing (with_literals m) frames (with_override m.overrides a) ≡ assigned closing m frames a
  assigned_same frames a = override_same m.program (closing (with_literals m) frames) (closing m frames) _ (m.overrides a.number) a.value (same frames)

  literal_turn : (frames : Frames) (t : Token) → turn closing (with_literals m) frames t ≡ turn closing m frames t
  literal_turn frames t =
      ap (turn_of closing (with_literals m) frames t) (found_after m.overrides m.assignments.all t.lexeme) ∙ by (assignment_at m.assignments t.lexeme)
    where
      by : (x : Option Assignment)
          → turn_of closing (with_literals m) frames t (option_map (with_override m.overrides) x) ≡ turn_of closing m frames t x
      by None = refl
      by (Some a) = ap (turn_by m frames a (is_taken m frames a)) (assigned_same frames a)

module _ (m : Module) (outer : Frames) (resolved : IsResolvedRun m outer) where
  -- the turns are the same under dynamic and under lexical scope
  pub dynamic_turn : (t : Token) → IsIn m.assignments.order t → (frames : Frames) → turn dynamically m frames t ≡ turn lexically m frames t
  dynamic_turn t among frames =
      sym (literal_turn dynamically m (λ frames. refl) frames t) ∙ resolved_turn (with_literals m) outer resolved t among frames
      ∙ literal_turn lexically m (λ frames. refl) frames t

  dynamic_run : run dynamically m ([] ∷ outer) m.assignments.order ≡ run lexically m ([] ∷ outer) m.assignments.order
  dynamic_run = same_run dynamically lexically m m m.assignments.order dynamic_turn ([] ∷ outer)

  literal_run : run lexically m ([] ∷ outer) m.assignments.order ≡ run lexically (with_literals m) ([] ∷ outer) m.assignments.order
  literal_run = same_run lexically lexically m (with_literals m) m.assignments.order
      (λ t among frames. sym (literal_turn lexically m (λ frames. refl) frames t)) ([] ∷ outer)

pub pending_calls_do_not_matter : PendingCallsDoNotMatter
pending_calls_do_not_matter m outer es o resolved path = subst (λ t. Path freely t es o) (dynamic_run m outer resolved) path

pub resolved_is_never_internal : ResolvedIsNeverInternal
resolved_is_never_internal m outer es o resolved path =
    let rules = (by_rules lexically (with_literals m) ([] ∷ outer) m.assignments.order
    (subst (λ t. Path freely t es o) (literal_run m outer resolved) path)).rules in
    lexical_run_is_never_internal (with_literals m) outer _ o resolved rules
