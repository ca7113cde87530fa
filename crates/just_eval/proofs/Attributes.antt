-- Evaluating the rest of a recipe's attributes.
use Rattle.std.proofs.Common.{◌≡◌, List, [], ◌∷◌, length, map, refl, ap, sym, subst, ◌∙◌, Option}
use Rattle.just_eval.specs.Prelude.{Behaves, Expr, Gave, IsSameButScopeAndEnvironment, Meanings, Outcome, Refusal, Step, Stopped, Text, Token, Tree, Value}
use Rattle.just_eval.specs.Prelude.{bind, unchecked}
use Rattle.just_eval.specs.Prelude.{dynamic_meaning, dynamic_meanings, environment, name_view, named_attribute_view, pairs_view, rules_of, situation_of, string}
use Rattle.just_eval.specs.Prelude.{view, with_variable, without_value}
use Rattle.just_syntax.specs.Plain.{Attribute, Env, Other}
use Rattle.just_syntax.specs.StringContext.{EnvKey}
use Rattle.just_syntax.specs.View.{attribute_view}
use Rattle.just_syntax.specs.declared.attribute.Attribute.{Attribute as Declared}
use Rattle.just_syntax.specs.declared.attribute.Attribute.TheVariants as kinds
use Rattle.just_syntax.specs.declared.expression.Expression.{Expression}
use Rattle.just_syntax.specs.declared.name.Name.{Name}
use Rattle.just_interaction.proofs.Paths.{runs_ends, runs_gives, runs_on, runs_stopped}
use Rattle.just_eval.specs.declared.evaluator.Evaluator.{Evaluator}
use Rattle.just_eval.proofs.Arguments.{situation_set}
use Rattle.just_eval.proofs.Same.{runs_same, same_on}

-- ---- which attribute comes next

pub left_env : (items more : List (Declared × Name)) (first : Declared × Name) (key value : Expression) → items ≡ first ∷ more → first.0 ≡ kinds.Env key value
    → map named_attribute_view items ≡ (Env (view key) (view value), name_view first.1) ∷ map named_attribute_view more
left_env items more first key value is kind =
    ap (map named_attribute_view) is ∙ ap (λ a. (attribute_view a, name_view first.1) ∷ map named_attribute_view more) kind

other_of : (a : Declared) → ((key : Expression) (value : Expression) → a ≡ kinds.Env key value → ⊥) → attribute_view a ≡ Other
other_of (kinds.Env key value) not_env = absurd (not_env key value refl)
other_of kinds.Other not_env = refl

pub left_other : (items more : List (Declared × Name)) (first : Declared × Name) → items ≡ first ∷ more
    → ((key : Expression) (value : Expression) → first.0 ≡ kinds.Env key value → ⊥)
    → map named_attribute_view items ≡ (Other, name_view first.1) ∷ map named_attribute_view more
left_other items more first is not_env =
    ap (map named_attribute_view) is ∙ ap (λ a. (a, name_view first.1) ∷ map named_attribute_view more) (other_of first.0 not_env)

pub left_none : (items : List (Declared × Name)) → length items ≡ 0 → map named_attribute_view items ≡ []
left_none [] none = refl
left_none (x ∷ xs) none = absurd (cc)

-- ---- the rest

-- The result of the rest from here is the result of all.
pub record AttributesLeft {S : Type 0} (step : Step S) (start : S) (e : Evaluator) (all : List (Attribute × Token)) (f : Evaluator)
    (left : List (Attribute × Token)) (here : S) : Type 0 where
  pub same : IsSameButScopeAndEnvironment e f
  pub scope : f.scope ≡ e.scope
  pub rest : (o : Outcome (List (Text × Text))) (new : S)
      → Behaves (rules_of e) step unchecked here (environment (dynamic_meanings e.context) (situation_of f) left) o new
      → Behaves (rules_of e) step unchecked start (environment (dynamic_meanings e.context) (situation_of e) all) o new

module _ {S : Type 0} {step : Step S} {start : S} {e : Evaluator} {all : List (Attribute × Token)} where
  pub attributes_start : {left : List (Attribute × Token)} → left ≡ all → AttributesLeft step start e all e left start
  attributes_start is = rw is (record {
    same = record { base = refl; context = refl; dependency = refl; lists = refl; open_numbers = refl; recipe = refl };
    scope = refl;
    rest = λ o new r. r;
  })

  module _ {f : Evaluator} {left : List (Attribute × Token)} {here : S} (from : AttributesLeft step start e all f left here) where
    abbrev means : Meanings
    means = dynamic_meanings e.context

    -- how all of them end
    abbrev Whole : Outcome (List (Text × Text)) → S → Type 0
    Whole o new = Behaves (rules_of e) step unchecked start (environment means (situation_of e) all) o new

    pub attributes_all : left ≡ [] → Whole (Gave (pairs_view f.env)) here
    attributes_all is = from.rest _ here (subst
        (λ l. Behaves (rules_of e) step unchecked here (environment means (situation_of f) l) (Gave (pairs_view f.env)) here)
        (sym is) (runs_gives (pairs_view f.env)))

    -- any other attribute sets nothing
    pub other_next : {name : Token} {more : List (Attribute × Token)} → left ≡ (Other, name) ∷ more → AttributesLeft step start e all f more here
    other_next is = record {
      same = from.same;
      scope = from.scope;
      rest = λ o new r. from.rest o new (subst (λ l. Behaves (rules_of e) step unchecked here (environment means (situation_of f) l) o new) (sym is) r);
    }

    module _ {key value : Expr} {name : Token} {more : List (Attribute × Token)} (is : left ≡ (Env key value, name) ∷ more) where
      -- the value, and then the rest
      abbrev after_key : Text → Tree (List (Text × Text))
      after_key k =
          bind (means (situation_of f) value) (λ v. environment means (record (situation_of f) { environment = with_variable (pairs_view f.env) k v }) more)

      fronted : (o : Outcome (List (Text × Text))) (new : S)
          → Behaves (rules_of e) step unchecked here (bind (string (means (situation_of f)) (EnvKey name) key) after_key) o new → Whole o new
      fronted o new r = from.rest o new (subst (λ l. Behaves (rules_of e) step unchecked here (environment means (situation_of f) l) o new) (sym is) r)

      pub key_ends : {new : S} (r : Option Refusal)
          → Behaves (rules_of f) step unchecked here (string (dynamic_meaning f) (EnvKey name) key) (without_value r) new
          → Whole (without_value r) new
      key_ends r q =
          fronted (without_value r) _ (runs_ends (string (means (situation_of f)) (EnvKey name) key) after_key r
          (runs_same e f from.same (λ m. string m (EnvKey name) key) q))

      module _ {mid : S} {k : Text} (first : Behaves (rules_of f) step unchecked here (string (dynamic_meaning f) (EnvKey name) key) (Gave k) mid) where
        keyed : {o : Outcome (List (Text × Text))} {new : S} → Behaves (rules_of e) step unchecked mid (after_key k) o new → Whole o new
        keyed r = fronted _ _ (runs_on (string (means (situation_of f)) (EnvKey name) key) after_key
            (runs_same e f from.same (λ m. string m (EnvKey name) key) first) r)

        pub value_ends : {new : S} (r : Option Refusal) → Behaves (rules_of f) step unchecked mid (dynamic_meaning f value) (without_value r) new
            → Whole (without_value r) new
        value_ends r q =
            keyed (runs_ends (means (situation_of f) value)
            (λ v. environment means (record (situation_of f) { environment = with_variable (pairs_view f.env) k v }) more) r
            (runs_same e f from.same (λ m. m value) q))

        module _ {new : S} {v : Value} (second : Behaves (rules_of f) step unchecked mid (dynamic_meaning f value) (Gave v) new) where
          valued : {o : Outcome (List (Text × Text))} {last : S}
              → Behaves (rules_of e) step unchecked new
              (environment means (record (situation_of f) { environment = with_variable (pairs_view f.env) k v }) more) o last
              → Whole o last
          valued r = keyed
              (runs_on (means (situation_of f) value) (λ v. environment means (record (situation_of f) { environment = with_variable (pairs_view f.env) k v })
              more) (runs_same e f from.same (λ m. m value) second) r)

          pub attribute_stops : Whole Stopped new
          attribute_stops = valued (runs_stopped _)

          -- the variable is set
          pub attribute_next : {g : Evaluator} → IsSameButScopeAndEnvironment f g → g.scope ≡ f.scope → pairs_view g.env ≡ with_variable (pairs_view f.env) k v
              → AttributesLeft step start e all g more new
          attribute_next {g = g} but scope set = record {
            same = same_on e f g from.same but;
            scope = scope ∙ from.scope;
            rest = λ o last r.
                valued (subst (λ s. Behaves (rules_of e) step unchecked new (environment means s more) o last) (situation_set f g but scope
                ∙ ap (λ v. record (situation_of f) { environment = v }) set) r);
          }
