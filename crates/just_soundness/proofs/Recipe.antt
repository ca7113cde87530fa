-- What a recipe's attributes and parameters mean: the same under dynamic and under lexical scope, with few refusals.
use Rattle.std.proofs.Common.{◌≡◌, inl, inr, ◌⊎◌, ℕ, Bool, true, false, List, [], ◌∷◌, ◌++◌, ◌||◌, length, nat_eq, if◌then◌else◌, Option, Some, None, refl, sym}
use Rattle.std.proofs.Common.{ap, ◌∙◌, subst, arith}
use Rattle.std.proofs.lemmas.Bool.Decides.{nat_tests}
use Rattle.std.specs.List.{AllByRecursion}
use Rattle.std.specs.Prelude.{option_to_list}
use Rattle.just_syntax.specs.Plain.{Text, Token, Attribute, Env, Expr, Function, Other, Parameter, Recipe}
use Rattle.just_syntax.specs.StringContext.{EnvKey, StringContext}
use Rattle.just_syntax.specs.Lists.{IsIn}
use Rattle.just_syntax.proofs.Lists.{all_front, all_after, all_alike}
use Rattle.just_value.specs.Value.{Names, Value}
use Rattle.just_value.specs.Frames.{Frame, Frames, bound_innermost, value_in, with_bound}
use Rattle.just_value.specs.Outcome.{Gave, Refused}
use Rattle.just_value.specs.Refusal.{Check, EmptyListArgument, Internal, ListInStringContext, Refusal}
use Rattle.just_host.specs.Interaction.{Rejected, Passed, Tree, Undecided, Verdict, check, done, refuses}
use Rattle.just_meaning.specs.Here.{AllReadable, AreReadableInTurn, IsReadable, attribute_expressions, expressions_of, parameter_expressions}
use Rattle.just_meaning.specs.Internal.{IfRefused, IsFinal}
use Rattle.just_meaning.specs.Meaning.{Situation}
use Rattle.just_meaning.specs.Messages.{mismatched_text}
use Rattle.just_meaning.specs.Parameters.{Arguments, Meanings, argument_or_value, bindings, default_or_none, environment, is_star, judged, none_or_refused}
use Rattle.just_meaning.specs.Parameters.{parameter_bound, parameters, seeing, valued, with_variable, words_of}
use Rattle.just_meaning.specs.Resolved.{HasValue}
use Rattle.just_meaning.specs.Settings.{text_in}
use Rattle.just_soundness.proofs.ConstInternal.{IsOther}
use Rattle.just_soundness.proofs.Final.{AllFinal}
use Rattle.just_soundness.proofs.Forms.{IsCongruence, equality, related_bind, related_if}
use Rattle.just_soundness.proofs.Here.{all_such}
use Rattle.just_soundness.proofs.Internal.{IsNeverInternal}
use Rattle.just_soundness.proofs.Refused.{AllRefused, refused_congruence, refused_text}
use Rattle.just_soundness.proofs.Taken.{AllHave, have_put, none_taken}

-- ---- lists of expressions

-- ---- attributes and parameters are related to others if their expressions are

-- whatever the expressions are: the check of a value, a parameter without one, and a single text
pub record OfParameters (R : (A : Type 0) → Tree A → Tree A → Type 0) : Type 0 where
  pub checks : (p : Parameter) (v : Value) → R Value (check p v (λ a. done (judged p v a))) (check p v (λ a. done (judged p v a)))
  pub absent : (recipe : Text) (p : Parameter) → R Value (done (none_or_refused recipe p)) (done (none_or_refused recipe p))
  pub text : (context : StringContext) (v : Value) → R Text (done (text_in context v)) (done (text_in context v))

module _ (R : (A : Type 0) → Tree A → Tree A → Type 0) (means other : Meanings) where
  abbrev pub AreRelated : Situation → List Expr → Type 0
  AreRelated s es = AllByRecursion (λ e. R Value (means s e) (other s e)) es

  -- for each parameter, whatever the earlier ones are bound to
  abbrev pub EachRelated : Situation → List Parameter → Type 0
  EachRelated s [] = Unit {0}
  EachRelated s (p ∷ ps) = AreRelated s (expressions_of p) × ((v : Value) → EachRelated (seeing (bound_innermost s.shown (parameter_bound s.lists p v)) s) ps)

  module _ (congruence : IsCongruence R) (parts : OfParameters R) where
    related_environment : (s : Situation) (left : List (Attribute × Token))
        → ((e : List (Text × Text)) → AreRelated (record s { environment = e }) (attribute_expressions left))
        → R (List (Text × Text)) (environment means s left) (environment other s left)
    related_environment s [] h = congruence.gave _ _
    related_environment s ((Env key value, name) ∷ left) h =
        related_bind R congruence (related_bind R congruence (h s.environment).0 (λ v. parts.text (EnvKey name) v))
        (λ k. related_bind R congruence (h s.environment).1.0 (λ v. related_environment (record s { environment = with_variable s.environment k v })
        left (λ e. (h e).1.1)))
    related_environment s ((Other, name) ∷ left) h = related_environment s left h

    related_default : (s : Situation) (recipe : Text) (p : Parameter) (o : Option Expr) → AreRelated s (option_to_list o)
        → R Value (default_or_none (means s) recipe p o) (default_or_none (other s) recipe p o)
    related_default s recipe p None h = parts.absent recipe p
    related_default s recipe p (Some e) h = h.0

    related_value : (s : Situation) (argument : Value) (o : Option Expr) → AreRelated s (option_to_list o)
        → R Value (argument_or_value (means s) s.is_dependency argument o) (argument_or_value (other s) s.is_dependency argument o)
    related_value s argument None h = congruence.gave _ _
    related_value s argument (Some e) h =
        related_if R congruence s.is_dependency (congruence.gave _ _) (related_bind R congruence h.0 (λ v. congruence.gave _ _))

    related_valued : (s : Situation) (recipe : Text) (p : Parameter) (argument : Value) → AreRelated s (expressions_of p)
        → R Value (valued (means s) s.is_dependency recipe p argument) (valued (other s) s.is_dependency recipe p argument)
    related_valued s recipe p [] h = related_default s recipe p p.default (all_front _ (option_to_list p.default) (option_to_list p.value) h)
    related_valued s recipe p (x ∷ xs) h = related_value s (x ∷ xs) p.value (all_after _ (option_to_list p.default) (option_to_list p.value) h)

    related_bindings : (recipe : Text) (s : Situation) (words : List Text) (ps : List Parameter) (arguments : List Value) → EachRelated s ps
        → R Arguments (bindings means recipe s words ps arguments) (bindings other recipe s words ps arguments)
    related_bindings recipe s words [] arguments h = congruence.gave _ _
    related_bindings recipe s words (p ∷ ps) [] h = congruence.gave _ _
    related_bindings recipe s words (p ∷ ps) (argument ∷ arguments) h =
        related_bind R congruence (related_bind R congruence (related_valued s recipe p argument h.0) (λ v. parts.checks p v))
        (λ v. related_bindings recipe (seeing (bound_innermost s.shown (parameter_bound s.lists p v)) s) (words ++ words_of p v) ps arguments (h.1 v))

    -- if the numbers of arguments and parameters are equal, or the refusal of another number is related to itself
    related_counted : (s : Situation) (recipe : Recipe) (ps : List Parameter) (arguments : List Value) → EachRelated s ps → let mismatch : Tree Arguments =
        refuses (Internal mismatched_text recipe.name) in
        (length arguments ≡ length ps) ⊎ R Arguments mismatch mismatch
        → R Arguments (if nat_eq (length arguments) (length ps) then bindings means recipe.name.lexeme s [] ps arguments else mismatch)
        (if nat_eq (length arguments) (length ps) then bindings other recipe.name.lexeme s [] ps arguments else mismatch)
    related_counted s recipe ps arguments each (inl same) =
        let mismatch : Tree Arguments = refuses (Internal mismatched_text recipe.name) in
        let yes' : nat_eq (length arguments) (length ps) ≡ true = grind (arith, nat_tests) in
        subst (λ b. R Arguments (if b then bindings means recipe.name.lexeme s [] ps arguments else mismatch) (if b
        then bindings other recipe.name.lexeme s [] ps arguments else mismatch)) (sym yes')
        (related_bindings recipe.name.lexeme s [] ps arguments each)
    related_counted s recipe ps arguments each (inr allowed) =
        related_if R congruence (nat_eq (length arguments) (length ps)) (related_bindings recipe.name.lexeme s [] ps arguments each) allowed

    pub related_parameters : (s : Situation) (recipe : Recipe) (ps : List Parameter) (arguments : List Value) → let mismatch : Tree Arguments =
        refuses (Internal mismatched_text recipe.name) in (length arguments ≡ length ps) ⊎ R Arguments mismatch mismatch
        → ((e : List (Text × Text)) → AreRelated (record s { environment = e }) (attribute_expressions recipe.attributes))
        → ((e : List (Text × Text)) → EachRelated (record s { environment = e }) ps)
        → R Arguments (parameters means s recipe ps arguments) (parameters other s recipe ps arguments)
    related_parameters s recipe ps arguments count h each = related_bind R congruence (related_environment s recipe.attributes h)
        (λ e. related_counted (record s { environment = e }) recipe ps arguments (each e) count)

-- ---- the meaning of the expressions decides

module _ (means other : Meanings) (below : Frames) where
  -- an expression means the same in all situations with these frames below a called body's
  abbrev pub SameOn : Expr → Type 0
  SameOn e = (s : Situation) → s.below ≡ below → means s e ≡ other s e

  same_in : (s : Situation) → s.below ≡ below → (es : List Expr) → AllByRecursion SameOn es → AreRelated (λ A t u. t ≡ u) means other s es
  same_in s on = all_alike SameOn (λ e. means s e ≡ other s e) (λ e same. same s on)

  same_each : (s : Situation) → s.below ≡ below → (ps : List Parameter) → AllByRecursion SameOn (parameter_expressions ps)
      → EachRelated (λ A t u. t ≡ u) means other s ps
  same_each s on [] same = tt
  same_each s on (p ∷ ps) same = (
    same_in s on (expressions_of p) (all_front _ (expressions_of p) (parameter_expressions ps) same),
    λ v. same_each (seeing (bound_innermost s.shown (parameter_bound s.lists p v)) s) on ps (all_after _ (expressions_of p) (parameter_expressions ps) same),
  )

  pub same_parameters : (s : Situation) → s.below ≡ below → (recipe : Recipe) (ps : List Parameter) (arguments : List Value)
      → AllByRecursion SameOn (attribute_expressions recipe.attributes) → AllByRecursion SameOn (parameter_expressions ps)
      → parameters means s recipe ps arguments ≡ parameters other s recipe ps arguments
  same_parameters s on recipe ps arguments same same' =
      related_parameters (λ A t u. t ≡ u) means other equality (record { checks = λ p v. refl; absent = λ recipe p. refl; text = λ context v. refl }) s recipe
      ps arguments (inr refl)
      (λ e. same_in (record s { environment = e }) on (attribute_expressions recipe.attributes) same)
      (λ e. same_each (record s { environment = e }) on ps same')

-- ---- refusals

-- refusals that are possible whatever the expressions are
pub record AllowsParameters (P : Refusal → Type 0) : Type 0 where
  pub check : (parameter message : Text) → P (Check parameter message)
  pub empty : (parameter recipe : Text) → P (EmptyListArgument parameter recipe)
  pub list : (context : StringContext) (v : Value) → P (ListInStringContext context v)

module _ (P : Refusal → Type 0) (allows : AllowsParameters P) where
  refused_check : (p : Parameter) (v : Value) (a : Verdict) → IfRefused P (judged p v a)
  refused_check p v Passed = tt
  refused_check p v (Rejected message) = allows.check p.name.lexeme message
  refused_check p v Undecided = tt

  refused_absent : (recipe : Text) (p : Parameter) (b : Bool)
      → IfRefused {A = Value} P (if b then Gave [] else Refused (EmptyListArgument p.name.lexeme recipe))
  refused_absent recipe p true = tt
  refused_absent recipe p false = allows.empty p.name.lexeme recipe

  pub refused_parameters : OfParameters (λ A t u. AllRefused P t)
  refused_parameters =
      record { checks = refused_check; absent = λ recipe p. refused_absent recipe p (is_star p.kind || p.flag); text = refused_text P allows.list }

-- ---- no refusal of constant evaluation

final_allows : AllowsParameters IsFinal
final_allows = record { check = λ parameter message. tt; empty = λ parameter recipe. tt; list = λ context v. tt }

module _ (means : Meanings) (final : (s : Situation) (e : Expr) → AllFinal (means s e)) where
  each_final : (s : Situation) (ps : List Parameter) → EachRelated (λ A t u. AllFinal t) means means s ps
  each_final s [] = tt
  each_final s (p ∷ ps) = (all_such _ (final s) (expressions_of p), λ v. each_final (seeing (bound_innermost s.shown (parameter_bound s.lists p v)) s) ps)

  pub parameters_final : (s : Situation) (recipe : Recipe) (ps : List Parameter) (arguments : List Value) → AllFinal (parameters means s recipe ps arguments)
  parameters_final s recipe ps arguments =
      related_parameters (λ A t u. AllFinal t) means means (refused_congruence IsFinal) (refused_parameters IsFinal final_allows) s recipe ps arguments (inr tt)
      (λ e. all_such _ (final (record s { environment = e })) (attribute_expressions recipe.attributes)) (λ e. each_final (record s { environment = e }) ps)

-- ---- no refusal that only an unresolved module meets, except for the number of arguments

others_allowed : AllowsParameters IsOther
others_allowed = record { check = λ parameter message none. none; empty = λ parameter recipe none. none; list = λ context v none. none }

-- An expression meets no such refusal if what it reads by itself has a value.
abbrev pub IsSafe : Meanings → List Function → Names → Expr → Type 0
IsSafe means functions base e = (s : Situation) → IsReadable functions base (HasValue s.names) e → IsNeverInternal (means s e)

module _ (means : Meanings) (functions : List Function) (base : Names) (outer : Frames) where
  safe_all : (s : Situation) (readable : ℕ → Type 0) → ((n : ℕ) → readable n → HasValue s.names n) → (es : List Expr)
      → AllByRecursion (IsSafe means functions base) es → AllReadable functions base readable es → AllByRecursion (λ x. IsNeverInternal (means s x)) es
  safe_all s readable have [] safe h = tt
  safe_all s readable have (e ∷ es) safe h =
      (safe.0 s (record { own = λ n occurs. have n (h.0.own n occurs); beyond = h.0.beyond }), safe_all s readable have es safe.1 h.1)

  each_safe : (s : Situation) (frame : Frame) → s.shown ≡ frame ∷ outer → s.names ≡ value_in s.shown → (earlier : List ℕ) (ps : List Parameter)
      → AllHave outer frame earlier
      → AllByRecursion (IsSafe means functions base) (parameter_expressions ps) → AreReadableInTurn functions base (value_in outer) earlier ps
      → EachRelated (λ A t u. AllRefused IsOther t) means means s ps
  each_safe s frame is names earlier [] have safe h = tt
  each_safe s frame is names earlier (p ∷ ps) have safe h = (
    safe_all s (λ n. IsIn earlier n ⊎ HasValue (value_in outer) n) (λ n known. subst (λ m. HasValue m n) (sym (names ∙ ap value_in is)) (have n known))
        (expressions_of p) (all_front _ (expressions_of p) (parameter_expressions ps) safe) h.0,
    λ v. each_safe (seeing (bound_innermost s.shown (parameter_bound s.lists p v)) s) (with_bound frame (parameter_bound s.lists p v))
        (ap (λ fs. bound_innermost fs (parameter_bound s.lists p v)) is) refl (p.number ∷ earlier) ps
        (have_put outer frame earlier (parameter_bound s.lists p v) have) (all_after _ (expressions_of p) (parameter_expressions ps) safe) h.1,
  )

  pub parameters_never : (s : Situation) → s.shown ≡ [] ∷ outer → s.names ≡ value_in s.shown → (recipe : Recipe) (ps : List Parameter) (arguments : List Value)
      → length arguments ≡ length ps
      → AllByRecursion (IsSafe means functions base) (attribute_expressions recipe.attributes)
      → AllReadable functions base (HasValue (value_in s.shown)) (attribute_expressions recipe.attributes)
      → AllByRecursion (IsSafe means functions base) (parameter_expressions ps) → AreReadableInTurn functions base (value_in s.shown) [] ps
      → IsNeverInternal (parameters means s recipe ps arguments)
  parameters_never s is names recipe ps arguments count safe read safe' turn =
      related_parameters (λ A t u. AllRefused IsOther t) means means (refused_congruence IsOther) (refused_parameters IsOther others_allowed) s recipe ps
      arguments (inl count)
      (λ e. safe_all (record s { environment = e }) (HasValue (value_in s.shown)) (λ n h. subst (λ m. HasValue m n) (sym names) h)
      (attribute_expressions recipe.attributes) safe read)
      (λ e. each_safe (record s { environment = e }) [] is names [] ps (none_taken (HasValue (value_in ([] ∷ outer))) outer (λ n has. has)) safe'
      (subst (λ fs. AreReadableInTurn functions base (value_in fs) [] ps) is turn))
