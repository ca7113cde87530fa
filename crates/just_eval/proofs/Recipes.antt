-- The results of a recipe's attributes and parameters: those of lexical scope, if all is resolved, and few refusals.
use Rattle.std.proofs.Common.{◌≡◌, ℕ, Bool, false, List, [], ◌∷◌, ◌++◌, length, Option, Some, Result, Ok, Err, refl, sym, subst, IfOk, ◌↔◌}
use Rattle.std.specs.List.{AllByRecursion}
use Rattle.just_eval.specs.Prelude.{AllKnown, AllReadable, Arguments, Expr, Frames, GoesByAnswers, HasValue, HaveOneElement, IfRefused, IsFinal, IsNotInternal}
use Rattle.just_eval.specs.Prelude.{Behaves, IsResolvedIn, IsResolvedWith, Meanings, Outcome, Parameter, Recipe, Resolves, Step, Text, Value, Verdicts}
use Rattle.just_eval.specs.Prelude.{calls_left_in, dynamic_meanings, ended, eval, frames_view, freely, functions_view, lexical, meanings, own_frame, parameters}
use Rattle.just_eval.specs.Prelude.{program_view, recipe_in, situation_of, value_in}
use Rattle.just_syntax.specs.Plain.{Function}
use Rattle.just_syntax.specs.declared.out_of_memory.OutOfMemory.{OutOfMemory}
use Rattle.just_syntax.proofs.Lists.{all_append, all_front, all_after, all_alike}
use Rattle.just_value.specs.Value.{Names}
use Rattle.just_value.specs.declared.error.Error.{Error}
use Rattle.just_host.specs.declared.execution_context.ExecutionContext.{ExecutionContext}
use Rattle.just_interaction.proofs.Paths.{answers_of}
use Rattle.just_meaning.specs.Here.{AreReadableInTurn, Here, IsReadable, attribute_expressions, expressions_of, parameter_expressions}
use Rattle.just_meaning.specs.Resolved.{MentionsKnown}
use Rattle.just_interaction.proofs.Ends.{ends_path}
use Rattle.just_soundness.proofs.Final.{final_dynamic, final_eval}
use Rattle.just_soundness.proofs.Here.{readable_apart}
use Rattle.just_soundness.proofs.Internal.{IsNeverInternal, expression_never}
use Rattle.just_soundness.proofs.Lexical.{dynamic_is_lexical}
use Rattle.just_soundness.proofs.OneElement.{IfGave, one_parameters}
use Rattle.just_soundness.proofs.Recipe.{IsSafe, SameOn, parameters_final, parameters_never, same_parameters}
use Rattle.just_eval.specs.declared.evaluator.Evaluator.{Evaluator}

-- ---- lists of expressions

-- ---- under lexical scope

module _ (c : ExecutionContext) (is_dependency : Bool) (outer : Frames) (recipe : Recipe) (ps : List Parameter) where
  -- the situation at the start
  abbrev start : Here
  start = recipe_in c [] is_dependency (Some recipe.name.lexeme) ([] ∷ outer)

  abbrev below : Frames
  below = frames_view c.scope.now

  abbrev functions : List Function
  functions = functions_view c.module.now

  abbrev means_dynamically : Meanings
  means_dynamically = dynamic_meanings (Some c)

  abbrev means_lexically : Meanings
  means_lexically = meanings start

  module _ (resolved : IsResolvedWith c ([] ∷ outer) recipe.attributes ps []) where
    same_on : (readable : ℕ → Type 0) (e : Expr) → IsReadable functions (value_in below) readable e → SameOn means_dynamically means_lexically below e
    same_on readable e h s on =
        subst (λ frames. means_dynamically s e ≡ eval (program_view c) (lexical (program_view c) (value_in frames) (calls_left_in (Some c))) s e) on
        (dynamic_is_lexical (program_view c) (calls_left_in (Some c)) s e
        (readable_apart (program_view c) _ (calls_left_in (Some c)) start.situation recipe.attributes ps [] below resolved readable e h))

    all_same : (readable : ℕ → Type 0) (es : List Expr) → AllReadable functions (value_in below) readable es
        → AllByRecursion (SameOn means_dynamically means_lexically below) es
    all_same readable = all_alike _ _ (same_on readable)

    turn_same : (names : Names) (earlier : List ℕ) (left : List Parameter) → AreReadableInTurn functions (value_in below) names earlier left
        → AllByRecursion (SameOn means_dynamically means_lexically below) (parameter_expressions left)
    turn_same names earlier [] h = tt
    turn_same names earlier (p ∷ left) h =
        (all_append _ (expressions_of p) (parameter_expressions left)).1 (all_same _ (expressions_of p) h.0, turn_same names (p.number ∷ earlier) left h.1)

    all_safe : (es : List Expr) → AllKnown functions es → AllByRecursion (IsSafe means_lexically functions (value_in below)) es
    all_safe [] known = tt
    all_safe (e ∷ es) known = (
      λ s read. expression_never (program_view c) (value_in below) (calls_left_in (Some c)) s e resolved.bodies known.0 read.own read.beyond,
      all_safe es known.1,
    )

    -- what the attributes read is bound
    read : AllReadable functions (value_in below) (HasValue (value_in ([] ∷ outer))) (attribute_expressions recipe.attributes)
    read = all_front (IsReadable functions (value_in below) (HasValue (value_in ([] ∷ outer)))) (attribute_expressions recipe.attributes) [] resolved.readable

    -- every variable and call in the attributes and parameters is known
    both_known : AllKnown functions (attribute_expressions recipe.attributes ++ parameter_expressions ps)
    both_known = all_front (MentionsKnown functions) (attribute_expressions recipe.attributes ++ parameter_expressions ps) [] resolved.known

    module _ (arguments : List Value) where
      is_lexical : parameters means_dynamically start.situation recipe ps arguments ≡ parameters means_lexically start.situation recipe ps arguments
      is_lexical = same_parameters means_dynamically means_lexically below start.situation refl recipe ps arguments
          (all_same _ (attribute_expressions recipe.attributes) read) (turn_same _ [] ps resolved.in_turn)

      never : length arguments ≡ length ps → IsNeverInternal (parameters means_lexically start.situation recipe ps arguments)
      never count =
          parameters_never means_lexically functions (value_in below) outer start.situation refl refl recipe ps arguments count
          (all_safe (attribute_expressions recipe.attributes) (all_front (MentionsKnown functions) (attribute_expressions recipe.attributes)
          (parameter_expressions ps) both_known)) read
          (all_safe (parameter_expressions ps) (all_after (MentionsKnown functions) (attribute_expressions recipe.attributes) (parameter_expressions ps)
          both_known)) resolved.in_turn

  module _ (arguments : List Value) {S : Type 0} {step : Step S} {says : Verdicts} {old new : S} {o : Outcome Arguments}
      (r : Behaves freely step says old (parameters means_dynamically start.situation recipe ps arguments) o new) where
    pub headline : IsResolvedWith c ([] ∷ outer) recipe.attributes ps []
        → Behaves freely step says old (parameters means_lexically start.situation recipe ps arguments) o new
    headline resolved = subst (λ t. Behaves freely step says old t o new) (is_lexical resolved arguments) r

    pub never_internal : IsResolvedWith c ([] ∷ outer) recipe.attributes ps [] → length arguments ≡ length ps → IsNotInternal o
    never_internal resolved count =
        ends_path IsNotInternal tt (parameters means_lexically start.situation recipe ps arguments) (never resolved arguments count) (headline resolved).path

    pub never_const : IfRefused IsFinal o
    never_const = ends_path (IfRefused IsFinal) tt (parameters means_dynamically start.situation recipe ps arguments)
        (parameters_final means_dynamically (λ s x. final_eval _ s _ (final_dynamic _ _) x) start.situation recipe ps arguments) r.path

    pub answered : GoesByAnswers step old new
    answered = answers_of r

    pub one_element : c.module.now.settings.lists ≡ false → IfGave (λ a. HaveOneElement (own_frame a.frames)) o
    one_element off = ends_path (IfGave (λ a. HaveOneElement (own_frame a.frames))) tt (parameters means_dynamically start.situation recipe ps arguments)
        (one_parameters means_dynamically start.situation outer refl off recipe ps arguments) r.path

-- in the same situation, the two notions of being resolved agree
pub resolves_with : (c : ExecutionContext) (environment : List (Text × Text)) (is_dependency : Bool) (name : Option Text) (outer : Frames)
    (e : Evaluator) (es : List Expr)
    → e.context ≡ Some c → situation_of e ≡ (recipe_in c environment is_dependency name ([] ∷ outer)).situation
    → Resolves e es ↔ IsResolvedWith c ([] ∷ outer) [] [] es
resolves_with c environment is_dependency name outer e es context situation = (
  (λ h. subst (λ s. IsResolvedIn (Some c) s es) situation (subst (λ x. IsResolvedIn x (situation_of e) es) context h)),
  (λ h. subst (λ x. IsResolvedIn x (situation_of e) es) (sym context) (subst (λ s. IsResolvedIn (Some c) s es) (sym situation) h)),
)

-- a third fact about a value follows from two
pub if_both : {X : Type 0} (P Q R : X → Type 0) (r : Result X OutOfMemory) → ((x : X) → P x → Q x → R x) → IfOk r P → IfOk r Q → IfOk r R
if_both P Q R (Ok x) h p q = h x p q
if_both P Q R (Err e) h p q = tt

-- a fact about an outcome holds of the result
pub if_given : {X A : Type 0} (P : A → Type 0) (f : X → A) (r : Result X Error) → IfGave P (ended f r) → IfOk r (λ x. P (f x))
if_given P f (Ok x) h = h
if_given P f (Err e) h = tt
