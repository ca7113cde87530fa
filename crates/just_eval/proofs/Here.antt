-- What an evaluator evaluates: in a run under lexical scope, and before any run by the const rules.
use Rattle.std.proofs.Common.{◌≡◌, ℕ, Bool, true, false, List, [], ◌∷◌, map, string_bytes, Option, Some, None, refl, sym, subst, is_some, option_map}
use Rattle.std.specs.List.{AllByRecursion}
use Rattle.just_eval.specs.Prelude.{AllKnown, AllReadable, AllResolvedOn, Assigned, Assignment, Expr, Frames, GoesByAnswers, HasValue, IfRefused, IsAtStart}
use Rattle.just_eval.specs.Prelude.{Behaves, IsConst, IsConstEval, IsFinal, IsInRun, IsNotInternal, IsResolvedIn, Outcome, Refusal, Resolves, Situation}
use Rattle.just_eval.specs.Prelude.{unchecked}
use Rattle.just_eval.specs.Prelude.{StageState, Step, Text, Tree, UnlessStopped, Value, below_of, calls_left_in, const_meaning, constant, constantly}
use Rattle.just_eval.specs.Prelude.{IsResolvedOn, const_value}
use Rattle.just_eval.specs.Prelude.{dynamic_meaning, dynamic_meanings, eval, exports_all, frames_view, freely, functions_view, lexical, lexical_meaning, line}
use Rattle.just_eval.specs.Prelude.{line_expressions, name_view, or_override, program_of, program_view, rules_in, rules_of, situation_of, stage_state_of}
use Rattle.just_eval.specs.Prelude.{string, value_in}
use Rattle.just_syntax.specs.Plain.{Fragment}
use Rattle.just_syntax.specs.declared.name.Name.{Name}
use Rattle.just_syntax.specs.StringContext.{StringContext}
use Rattle.just_value.specs.Refusal.{ListInStringContext}
use Rattle.just_host.specs.declared.execution_context.ExecutionContext.{ExecutionContext}
use Rattle.just_meaning.specs.Module.{situation_at}
use Rattle.just_soundness.proofs.ConstInternal.{IsOther, resolved_const, shut_other}
use Rattle.just_soundness.proofs.Constants.{AllConst, HasConstOutcome, const_refused, const_outcome, eval_alike, unless_such}
use Rattle.just_interaction.proofs.Ends.{ends_path}
use Rattle.just_soundness.proofs.Final.{AllFinal, final_dynamic, final_eval}
use Rattle.just_soundness.proofs.Here.{Same, all_such, line_const, line_final, line_never, readable_apart, same_line, same_string, string_const, string_final}
use Rattle.just_soundness.proofs.Here.{string_never}
use Rattle.just_soundness.proofs.Internal.{IsNeverInternal, expression_never}
use Rattle.just_soundness.proofs.Lexical.{dynamic_is_lexical}
use Rattle.just_eval.specs.View.{exports_all_in}
use Rattle.just_eval.specs.declared.evaluator.Evaluator.{Evaluator}

-- `make` depends only on the meanings of these expressions: equal meanings give equal trees, and the tree's refusals
-- are theirs and those of lists.
pub record IsMadeOf {A : Type 0} (make : (Expr → Tree Value) → Tree A) (es : List Expr) : Type 1 where
  pub same : (means other : Expr → Tree Value) → AllByRecursion (Same means other) es → make means ≡ make other
  pub never : (means : Expr → Tree Value) → AllByRecursion (λ e. IsNeverInternal (means e)) es → IsNeverInternal (make means)
  pub final : (means : Expr → Tree Value) → ((e : Expr) → AllFinal (means e)) → AllFinal (make means)
  pub const : (P : Refusal → Type 0) (is_open : ℕ → Bool) (means : Expr → Tree Value)
      → ((context : StringContext) (v : Value) → P (ListInStringContext context v))
      → AllByRecursion (λ e. AllConst P is_open (means e)) es → AllConst P is_open (make means)

pub value_made : (e : Expr) → IsMadeOf (λ means. means e) (e ∷ [])
value_made e = record { same = λ means other h. h.0; never = λ means h. h.0; final = λ means h. h e; const = λ P is_open means lists h. h.0 }

pub string_made : (context : StringContext) (e : Expr) → IsMadeOf (λ means. string means context e) (e ∷ [])
string_made context e = record {
  same = λ means other h. same_string means other context e h.0;
  never = λ means h. string_never means context e h.0;
  final = λ means h. string_final means context e (h e);
  const = λ P is_open means lists h. string_const P lists is_open means context e h.0;
}

pub line_made : (continued : Bool) (fs : List Fragment) → IsMadeOf (λ means. line means continued fs) (line_expressions fs)
line_made continued fs = record {
  same = λ means other h. same_line means other continued fs h;
  never = λ means h. line_never means continued fs h;
  final = λ means h. line_final means continued fs h;
  const = λ P is_open means lists h. line_const P lists is_open means continued fs h;
}

-- ---- in a run

free : (context : Option ExecutionContext) (is_open : ℕ → Bool) → is_some context ≡ true → rules_in context is_open ≡ freely
free (Some c) is_open h = refl
free None is_open h = absurd (cc)

in_run : (context : Option ExecutionContext) (s : Situation) (es : List Expr) → IsResolvedIn context s es → is_some context ≡ true
in_run (Some c) s es h = refl
in_run None s es h = absurd h

-- what expressions mean under lexical scope
abbrev lexical_in : Option ExecutionContext → Evaluator → Expr → Tree Value
lexical_in context e x = let s = situation_of e in let p = program_of context in eval p (lexical p (value_in s.below) (calls_left_in context)) s x

module _ (c : ExecutionContext) (e : Evaluator) (all : List Expr) (resolved : IsResolvedIn (Some c) (situation_of e) all) where
  -- what these expressions mean under dynamic and under lexical scope
  abbrev means_dynamically : Expr → Tree Value
  means_dynamically = dynamic_meanings (Some c) (situation_of e)

  abbrev means_lexically : Expr → Tree Value
  means_lexically = lexical_in (Some c) e

  each_same : (es : List Expr) → AllReadable (functions_view c.module.now) (value_in (situation_of e).below) (HasValue (value_in (situation_of e).shown)) es
      → AllByRecursion (Same means_dynamically means_lexically) es
  each_same [] h = tt
  each_same (x ∷ xs) h = (
    dynamic_is_lexical (program_view c) (calls_left_in (Some c)) (situation_of e) x
        (readable_apart (program_view c) _ (calls_left_in (Some c)) (situation_of e) [] [] all (situation_of e).below resolved
        (HasValue (value_in (situation_of e).shown)) x h.0),
    each_same xs h.1,
  )

  each_never : (es : List Expr) → AllKnown (functions_view c.module.now) es → AllReadable (functions_view c.module.now) (value_in (situation_of e).below)
      (HasValue (value_in (situation_of e).shown)) es → AllByRecursion (λ x. IsNeverInternal (means_lexically x)) es
  each_never [] known h = tt
  each_never (x ∷ xs) known h = (
    expression_never (program_view c) (value_in (situation_of e).below) (calls_left_in (Some c)) (situation_of e) x resolved.bodies known.0 h.0.own h.0.beyond,
    each_never xs known.1 h.1,
  )

module _ (e : Evaluator) {A : Type 0} (make : (Expr → Tree Value) → Tree A) (es : List Expr) (made : IsMadeOf make es) where
  resolved_same : (context : Option ExecutionContext) → IsResolvedIn context (situation_of e) es → make (dynamic_meanings context (situation_of e))
      ≡ make (lexical_in context e)
  resolved_same (Some c) resolved = made.same _ _ (each_same c e es resolved es resolved.readable)
  resolved_same None resolved = absurd resolved

  resolved_never : (context : Option ExecutionContext) → IsResolvedIn context (situation_of e) es → IsNeverInternal (make (lexical_in context e))
  resolved_never (Some c) resolved = made.never _ (each_never c e es resolved es resolved.known resolved.readable)
  resolved_never None resolved = absurd resolved

  module _ {S : Type 0} {step : Step S} {old new : S} {o : Outcome A} (r : Behaves (rules_of e) step unchecked old (make (dynamic_meaning e)) o new) where
    freely_run : IsInRun e → Behaves freely step unchecked old (make (dynamic_meaning e)) o new
    freely_run h = subst (λ rules. Behaves rules step unchecked old (make (dynamic_meaning e)) o new) (free e.context (stage_state_of e).is_open h) r

    pub headline : Resolves e es → Behaves freely step unchecked old (make (lexical_meaning e)) o new
    headline resolved =
        subst (λ t. Behaves freely step unchecked old t o new) (resolved_same e.context resolved) (freely_run (in_run e.context (situation_of e) es resolved))

    pub never_internal : Resolves e es → IsNotInternal o
    never_internal resolved = ends_path IsNotInternal tt (make (lexical_meaning e)) (resolved_never e.context resolved) (headline resolved).path

    pub never_const : IsInRun e → IfRefused IsFinal o
    never_const h = ends_path (IfRefused IsFinal) tt (make (dynamic_meaning e))
        (made.final (dynamic_meaning e) (λ x. final_eval _ (situation_of e) _ (final_dynamic _ _) x)) (freely_run h).path

    pub answered : GoesByAnswers step old new
    answered = record { events = r.events; chain = r.chain }

-- ---- assignments

situation_start : (e : Evaluator) → IsAtStart e → situation_of e ≡ situation_at e.lists (frames_view e.scope)
situation_start e start =
    let frames = frames_view e.scope in
    λ i. record {
      names = value_in frames;
      environment = map (λ v. (string_bytes v.0, string_bytes v.1)) (start.environment i);
      recipe = option_map (λ (n : Name). (name_view n).lexeme) (start.recipe i);
      is_dependency = start.dependency i;
      lists = e.lists;
      shown = frames;
      below = below_of (start.base i) frames;
    }

-- what evaluating an assignment means in a context and a situation
abbrev AssignedIn : {S : Type 0} → Step S → S → (ℕ → Bool) → Option Text → Expr → Assignment → Frames → Outcome Frames → S → Option ExecutionContext
    → Situation → Type 0
AssignedIn step old is_open override x a frames o new context s =
    Assigned (rules_in context is_open) step old (or_override override (dynamic_meanings context s x)) (exports_all_in context) a frames o new

module _ {S : Type 0} {step : Step S} {old new : S} (e : Evaluator) (start : IsAtStart e) (override : Option Text) (x : Expr) {a : Assignment} {frames : Frames}
    {o : Outcome Frames} where
  started : Assigned (rules_of e) step old (or_override override (dynamic_meaning e x)) (exports_all e) a frames o new
      → AssignedIn step old (stage_state_of e).is_open override x a frames o new e.context (situation_at e.lists (frames_view e.scope))
  started h = subst (AssignedIn step old (stage_state_of e).is_open override x a frames o new e.context) (situation_start e start) h

  -- in a run
  pub ran_here : (c : ExecutionContext) → e.context ≡ Some c → e.lists ≡ c.module.now.settings.lists
      → Assigned (rules_of e) step old (or_override override (dynamic_meaning e x)) (exports_all e) a frames o new
      → Assigned freely step old (or_override override (dynamic_meanings (Some c) (situation_at c.module.now.settings.lists (frames_view e.scope)) x))
      c.module.now.settings.export a frames o new
  ran_here c is lists h =
      subst (λ l. AssignedIn step old (stage_state_of e).is_open override x a frames o new (Some c) (situation_at l (frames_view e.scope))) lists
      (subst (λ context. AssignedIn step old (stage_state_of e).is_open override x a frames o new context (situation_at e.lists (frames_view e.scope))) is
      (started h))

-- before any run
pub staged_here : {S : Type 0} {step : Step S} {old new : S} (e : Evaluator) (before : IsConst e) (override : Option Text) (x : Expr) {a : Assignment}
    {frames : Frames} {o : Outcome Frames}
    → Assigned (rules_of e) step old (or_override override (dynamic_meaning e x)) (exports_all e) a frames o new
    → Assigned (constantly (stage_state_of e).is_open) step old (or_override override (const_meaning (stage_state_of e) x)) false a frames o new
staged_here {step = step} {old = old} {new = new} e before override x {a = a} {frames = frames} {o = o} h =
    subst (λ context. AssignedIn step old (stage_state_of e).is_open override x a frames o new context (situation_at e.lists (frames_view e.scope)))
    before.context (started e before.start override x h)

-- ---- before any run

each_resolved : (s : StageState) (es : List Expr) → AllResolvedOn s es → AllByRecursion (λ x. AllConst IsOther s.is_open (const_meaning s x)) es
each_resolved s [] h = tt
each_resolved s (x ∷ xs) h = (resolved_const s x h.0, each_resolved s xs h.1)

module _ (e : Evaluator) {A : Type 0} (make : (Expr → Tree Value) → Tree A) (es : List Expr) (made : IsMadeOf make es) (before : IsConst e) {S : Type 0}
    {step : Step S} {old new : S} {o : Outcome A} (r : Behaves (rules_of e) step unchecked old (make (dynamic_meaning e)) o new) where
  const_run : Behaves (constantly (stage_state_of e).is_open) step unchecked old (make (const_meaning (stage_state_of e))) o new
  const_run =
      subst (λ context. Behaves (rules_in context (stage_state_of e).is_open) step unchecked old
      (make (dynamic_meanings context (situation_at e.lists (frames_view e.scope)))) o new) before.context
      (subst (λ s. Behaves (rules_of e) step unchecked old (make (dynamic_meanings e.context s)) o new) (situation_start e before.start) r)

  determined : HasConstOutcome (stage_state_of e).is_open (make (const_meaning (stage_state_of e))) o old new
  determined =
      let s = stage_state_of e in
      const_outcome s.is_open _ o (made.const IsConstEval s.is_open (const_meaning s) (λ context v. tt) (all_such _ (λ x. eval_alike s.is_open _ _ _ x) es))
      const_run

  pub constants : UnlessStopped o (constant (stage_state_of e).is_open (make (const_meaning (stage_state_of e))))
  constants = determined.determined

  pub few : IfRefused IsConstEval o
  few = determined.few

  pub still : new ≡ old
  still = sym determined.still

  pub resolved_constants : AllResolvedOn (stage_state_of e) es → IsNotInternal o
  resolved_constants resolved =
      let s = stage_state_of e in
      unless_such IsOther o _ determined.determined
      (const_refused IsOther s.is_open _ (shut_other s.is_open) (made.const IsOther s.is_open (const_meaning s) (λ context v none. none)
      (each_resolved s es resolved)))

-- by the const rules, from any evaluator
module _ (s : StageState) (x : Expr) {S : Type 0} {step : Step S} {old new : S} {o : Outcome Value}
    (r : Behaves (constantly s.is_open) step unchecked old (const_meaning s x) o new) where
  constant_determined : HasConstOutcome s.is_open (const_meaning s x) o old new
  constant_determined = const_outcome s.is_open _ o (eval_alike s.is_open _ _ _ x) r

  pub constant_is : UnlessStopped o (const_value s x)
  constant_is = constant_determined.determined

  pub constant_few : IfRefused IsConstEval o
  constant_few = constant_determined.few

  pub constant_resolved : IsResolvedOn s x → IsNotInternal o
  constant_resolved resolved =
      unless_such IsOther o _ constant_determined.determined (const_refused IsOther s.is_open _ (shut_other s.is_open) (resolved_const s x resolved))
