-- How evaluating a recipe's attributes and its parameters is composed.
use Rattle.std.proofs.Common.{◌≡◌, Bool, true, false, List, [], length, nat_eq, if◌then◌else◌, ap, sym, subst, ◌∙◌, Option, Some, None, map, arith}
use Rattle.std.proofs.lemmas.Bool.Decides.{nat_tests}
use Rattle.std.proofs.lemmas.List.{length-map}
use Rattle.just_eval.specs.Prelude.{Arguments, Gave, Internal, IsSameButScopeAndEnvironment, Meanings, Outcome, Parameter, Recipe, Refusal, Refused}
use Rattle.just_eval.specs.Prelude.{Behaves, RefusesWith, Situation, Step, Text, Tree, UnlessStopped, Value, Verdicts, bindings, dynamic_meanings, unchecked}
use Rattle.just_eval.specs.Prelude.{environment, freely, pairs_view, parameters, rules_in, rules_of, situation_of, stage_state_of, without_value}
use Rattle.just_host.specs.Interaction.{refuses}
use Rattle.just_host.specs.declared.execution_context.ExecutionContext.{ExecutionContext}
use Rattle.just_interaction.proofs.Paths.{runs_ends, runs_on, runs_checked}
use Rattle.just_interaction.proofs.Paths.{runs_done}
use Rattle.just_meaning.specs.Messages.{mismatched_text}
use Rattle.just_eval.specs.declared.evaluator.Evaluator.{Evaluator}
use Rattle.just_eval.proofs.Arguments.{situation_set}

-- the outcome is this refusal, unless memory ran out
said : (r : Option Refusal) (x : Refusal) → RefusesWith r x → UnlessStopped {A = Arguments} (without_value r) (Refused x)
said (Some s) x h = ap Refused h
said None x h = tt

-- whether there are as many arguments as parameters
pub same_count : {X Y Z : Type 0} (f : X → Y) (vs : List Z) (xs : List X) → length vs ≡ length xs → nat_eq (length vs) (length (map f xs)) ≡ true
same_count f vs xs same = let mapped : length (map f xs) ≡ length xs = length-map xs f in grind (arith, nat_tests)

pub other_count : {X Y Z : Type 0} (f : X → Y) (vs : List Z) (xs : List X) → (length vs ≡ length xs → ⊥) → nat_eq (length vs) (length (map f xs)) ≡ false
other_count f vs xs other = let mapped : length (map f xs) ≡ length xs = length-map xs f in grind (arith, nat_tests)

module _ (c : ExecutionContext) (s : Situation) (recipe : Recipe) (ps : List Parameter) (arguments : List Value) where
  abbrev means : Meanings
  means = dynamic_meanings (Some c)

  -- the bindings, if there are as many arguments as parameters
  abbrev if_counted : List (Text × Text) → Bool → Tree Arguments
  if_counted variables b =
      if b then bindings means recipe.name.lexeme (record s { environment = variables }) [] ps arguments else refuses (Internal mismatched_text recipe.name)

  abbrev after : List (Text × Text) → Tree Arguments
  after variables = if_counted variables (nat_eq (length arguments) (length ps))

  module _ {S : Type 0} {step : Step S} {old : S} (e : Evaluator) (context : e.context ≡ Some c) (situation : situation_of e ≡ s) where
    attributes_run : {o : Outcome (List (Text × Text))} {new : S}
        → Behaves (rules_of e) step unchecked old (environment (dynamic_meanings e.context) (situation_of e) recipe.attributes) o new
        → Behaves freely step unchecked old (environment means s recipe.attributes) o new
    attributes_run {o = o} {new = new} r =
        subst (λ at. Behaves freely step unchecked old (environment means at recipe.attributes) o new) situation
        (subst (λ x. Behaves (rules_in x (stage_state_of e).is_open) step unchecked old
        (environment (dynamic_meanings x) (situation_of e) recipe.attributes) o new) context
        r)

    pub attributes_end : {says : Verdicts} {new : S} (r : Option Refusal)
        → Behaves (rules_of e) step unchecked old (environment (dynamic_meanings e.context) (situation_of e) recipe.attributes) (without_value r) new
        → Behaves freely step says old (parameters means s recipe ps arguments) (without_value r) new
    attributes_end r q = runs_ends (environment means s recipe.attributes) after r (runs_checked (attributes_run q))

    module _ {f : Evaluator} (same : IsSameButScopeAndEnvironment e f) (scope : f.scope ≡ e.scope) {mid : S}
        (q : Behaves (rules_of e) step unchecked old (environment (dynamic_meanings e.context) (situation_of e) recipe.attributes)
        (Gave (pairs_view f.env)) mid) where
      set : situation_of f ≡ record s { environment = pairs_view f.env }
      set = situation_set e f same scope ∙ ap (λ (at : Situation). record at { environment = pairs_view f.env }) situation

      on : {says : Verdicts} {o : Outcome Arguments} {new : S} (b : Bool) → nat_eq (length arguments) (length ps) ≡ b
          → Behaves freely step says mid (if_counted (pairs_view f.env) b) o new
          → Behaves freely step says old (parameters means s recipe ps arguments) o new
      on {says = says} {o = o} {new = new} b is r = runs_on (environment means s recipe.attributes) after (runs_checked (attributes_run q))
          (subst (λ x. Behaves freely step says mid (if_counted (pairs_view f.env) x) o new) (sym is) r)

      pub miscounted : {says : Verdicts} → nat_eq (length arguments) (length ps) ≡ false → (r : Option Refusal)
          → RefusesWith r (Internal mismatched_text recipe.name)
          → Behaves freely step says old (parameters means s recipe ps arguments) (without_value r) mid
      miscounted off r h = on false off (runs_checked (runs_done _ _ (said r (Internal mismatched_text recipe.name) h)))

      pub bound : {says : Verdicts} {o : Outcome Arguments} {new : S} → nat_eq (length arguments) (length ps) ≡ true
          → Behaves (rules_of f) step says mid (bindings (dynamic_meanings f.context) recipe.name.lexeme (situation_of f) [] ps arguments) o new
          → Behaves freely step says old (parameters means s recipe ps arguments) o new
      bound {says = says} {o = o} {new = new} same_count r =
          on true same_count
          (subst (λ at. Behaves freely step says mid (bindings means recipe.name.lexeme at [] ps arguments) o new) set
          (subst (λ x. Behaves (rules_in x (stage_state_of f).is_open) step says mid
          (bindings (dynamic_meanings x) recipe.name.lexeme (situation_of f) [] ps arguments) o new) (same.context ∙ context) r))
