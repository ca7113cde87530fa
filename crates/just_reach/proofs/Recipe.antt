-- Each event of a line, and of a recipe's attributes and parameters, comes from a member that is reached.
use Rattle.std.proofs.Common.{inl, inr, Bool, false, List, [], ◌∷◌, ◌++◌, length, nat_eq, option_to_list, Option, Some, None, refl}
use Rattle.just_syntax.specs.Plain.{Attribute, Env, Expr, Fragment, Interpolation, Other, Parameter, Recipe, Text, TextFragment, Token}
use Rattle.just_syntax.specs.Lists.{IsIn}
use Rattle.just_syntax.proofs.Lists.{each_in, in_first, in_second}
use Rattle.just_value.specs.Value.{Value}
use Rattle.just_value.specs.Outcome.{Outcome}
use Rattle.just_host.specs.Interaction.{Asked, Checked, Event, Noted, Path, Tree, Verdict, freely}
use Rattle.just_meaning.specs.Here.{attribute_expressions, expressions_of, parameter_expressions}
use Rattle.just_meaning.specs.Line.{fragment, line, line_expressions, string}
use Rattle.just_meaning.specs.Meaning.{Deeper, Program, Situation, eval}
use Rattle.just_meaning.specs.Parameters.{Arguments, argument_or_value, bindings, checked, default_or_none, environment, parameters, valued}
use Rattle.just_syntax.specs.StringContext.{EnvKey}
use Rattle.just_reach.specs.Law.{ComesFrom, ComesFromRecipe, IsScoped}
use Rattle.just_reach.specs.Member.{PlainMember}
use Rattle.just_reach.specs.Reached.{IsReachedByOne}
use Rattle.just_reach.proofs.Covered.{scoped_covered}
use Rattle.just_reach.proofs.Reaching.{closed_by_one}
use Rattle.just_interaction.proofs.Events.{AllEvents, events_alike, events_bind, events_if, events_path}

-- an expression is covered if it is one of those that reach
one_covered : (c : Program) (d : Deeper) → IsScoped c d → (all : List Expr) (s : Situation) (e : Expr) → IsIn all e
    → AllEvents (ComesFrom c s.environment (IsReachedByOne c.functions all)) (eval c d s e)
one_covered c d scoped all s e among =
    scoped_covered c s.environment (IsReachedByOne c.functions all) (closed_by_one c.functions all) d scoped s refl e (λ x occurs. (e, among, inl occurs))

-- ---- lines

module _ (P : Event → Type 0) (means : Expr → Tree Value) where
  line_within : (continued : Bool) (fs : List Fragment) → ((e : Expr) → IsIn (line_expressions fs) e → AllEvents P (means e))
      → AllEvents P (line means continued fs)
  line_within continued [] h = tt
  line_within continued (TextFragment t ∷ fs) h = events_bind P (line means false fs) _ (line_within false fs h) (λ rest. tt)
  line_within continued (Interpolation e ∷ fs) h =
      events_bind P (fragment means continued (Interpolation e)) _ (events_bind P (means e) _ (h e (inl refl)) (λ v. tt))
      (λ text. events_bind P (line means false fs) _ (line_within false fs (λ f among. h f (inr among))) (λ rest. tt))

pub line_reaches : (c : Program) (d : Deeper) → IsScoped c d → (s : Situation) (continued : Bool) (fs : List Fragment) (es : List Event) (o : Outcome Text)
    → Path freely (line (eval c d s) continued fs) es o → (x : Event) → IsIn es x
    → ComesFrom c s.environment (IsReachedByOne c.functions (line_expressions fs)) x
line_reaches c d scoped s continued fs es o path x i =
    let P : Event → Type 0 = ComesFrom c s.environment (IsReachedByOne c.functions (line_expressions fs)) in
    each_in P es (events_path P path (line_within P (eval c d s) continued fs (λ e among. one_covered c d scoped (line_expressions fs) s e among))) x i

-- ---- attributes and parameters

module _ (P : Event → Type 0) (means : Situation → Expr → Tree Value) where
  -- these expressions are covered in each situation
  abbrev AreCovered : List Expr → Type 0
  AreCovered es = (e : Expr) → IsIn es e → (s : Situation) → AllEvents P (means s e)

  attributes_within : (attributes : List (Attribute × Token)) (s : Situation) → AreCovered (attribute_expressions attributes)
      → AllEvents P (environment means s attributes)
  attributes_within [] s h = tt
  attributes_within ((Env key value, name) ∷ left) s h =
      events_bind P (string (means s) (EnvKey name) key) _ (events_bind P (means s key) _ (h key (inl refl) s) (λ v. tt))
      (λ k. events_bind P (means s value) _ (h value (inr (inl refl)) s) (λ v. attributes_within left _ (λ e among. h e (inr (inr among)))))
  attributes_within ((Other, name) ∷ left) s h = attributes_within left s h

  default_within : (s : Situation) (recipe : Text) (p : Parameter) (o : Option Expr) → AreCovered (option_to_list o)
      → AllEvents P (default_or_none (means s) recipe p o)
  default_within s recipe p (Some e) h = h e (inl refl) s
  default_within s recipe p None h = tt

  value_within : (s : Situation) (is_dependency : Bool) (v : Value) (o : Option Expr) → AreCovered (option_to_list o)
      → AllEvents P (argument_or_value (means s) is_dependency v o)
  value_within s is_dependency v None h = tt
  value_within s is_dependency v (Some e) h = events_if P is_dependency _ _ tt (events_bind P (means s e) _ (h e (inl refl) s) (λ w. tt))

  valued_within : (s : Situation) (recipe : Text) (p : Parameter) (v : Value) → AreCovered (expressions_of p)
      → AllEvents P (valued (means s) s.is_dependency recipe p v)
  valued_within s recipe p [] h =
      default_within s recipe p p.default (λ e among. h e (in_first (option_to_list p.default) (option_to_list p.value) e among))
  valued_within s recipe p (x ∷ xs) h =
      value_within s s.is_dependency (x ∷ xs) p.value (λ e among. h e (in_second (option_to_list p.default) (option_to_list p.value) e among))

  -- a check of one of these parameters may happen
  abbrev AllChecked : List Parameter → Type 0
  AllChecked ps = (p : Parameter) (v : Value) (a : Verdict) → IsIn ps p → P (Checked p v a)

  bindings_within : (recipe : Text) (ps : List Parameter) (arguments : List Value) (s : Situation) (words : List Text) → AllChecked ps
      → AreCovered (parameter_expressions ps) → AllEvents P (bindings means recipe s words ps arguments)
  bindings_within recipe [] arguments s words checks h = tt
  bindings_within recipe (p ∷ ps) [] s words checks h = tt
  bindings_within recipe (p ∷ ps) (argument ∷ arguments) s words checks h =
      events_bind P (checked (means s) s.is_dependency recipe p argument) _
      (events_bind P (valued (means s) s.is_dependency recipe p argument) _
      (valued_within s recipe p argument (λ e among. h e (in_first (expressions_of p) (parameter_expressions ps) e among)))
      (λ v a. (checks p v a (inl refl), tt)))
      (λ v. bindings_within recipe ps arguments _ _ (λ q w a among. checks q w a (inr among))
      (λ e among. h e (in_second (expressions_of p) (parameter_expressions ps) e among)))

  parameters_within : (s : Situation) (recipe : Recipe) (ps : List Parameter) (arguments : List Value) → AllChecked ps
      → AreCovered (attribute_expressions recipe.attributes ++ parameter_expressions ps) → AllEvents P (parameters means s recipe ps arguments)
  parameters_within s recipe ps arguments checks h =
      events_bind P (environment means s recipe.attributes) _
      (attributes_within recipe.attributes s (λ e among. h e (in_first (attribute_expressions recipe.attributes) (parameter_expressions ps) e among)))
      (λ e. events_if P (nat_eq (length arguments) (length ps)) _ _
      (bindings_within recipe.name.lexeme ps arguments (record s { environment = e }) [] checks
      (λ f among. h f (in_second (attribute_expressions recipe.attributes) (parameter_expressions ps) f among))) tt)

-- what comes from a member with some environment comes from the recipe
from_some : (c : Program) (ps : List Parameter) (reached : PlainMember → Type 0) (environment : List (Text × Text)) (x : Event)
    → ComesFrom c environment reached x
    → ComesFromRecipe c ps reached x
from_some c ps reached environment (Noted n) h = (environment, h)
from_some c ps reached environment (Asked q a) h = (environment, h)
from_some c ps reached environment (Checked p v a) h = absurd h

pub parameters_reach : (c : Program) (d : Deeper) → IsScoped c d → (s : Situation) (recipe : Recipe) (ps : List Parameter) (arguments : List Value)
    (es : List Event) (o : Outcome Arguments) → Path freely (parameters (eval c d) s recipe ps arguments) es o → (x : Event) → IsIn es x
    → ComesFromRecipe c ps (IsReachedByOne c.functions (attribute_expressions recipe.attributes ++ parameter_expressions ps)) x
parameters_reach c d scoped s recipe ps arguments es o path x i =
    let all : List Expr = attribute_expressions recipe.attributes ++ parameter_expressions ps in
    let P : Event → Type 0 = ComesFromRecipe c ps (IsReachedByOne c.functions all) in
    each_in P es (events_path P path (parameters_within P (eval c d) s recipe ps arguments (λ p v a among. among)
    (λ e among t. events_alike P (ComesFrom c t.environment (IsReachedByOne c.functions all)) (from_some c ps (IsReachedByOne c.functions all) t.environment)
    (eval c d t e) (one_covered c d scoped all t e among)))) x i
