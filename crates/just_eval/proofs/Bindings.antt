-- Binding the rest of a recipe's parameters.
use Rattle.std.proofs.Common.{◌≡◌, inl, inr, ◌⊎◌, true, List, [], ◌∷◌, ◌++◌, length, map, refl, sym, subst, Option, Result, Bor, is_some}
use Rattle.std.specs.Fn.{Shared}
use Rattle.just_eval.specs.Prelude.{Arguments, Behaves, Gave, GivesVerdict, IsJudged, IsSameButScopeAndEnvironment, Meanings, Outcome, Parameter, Refusal}
use Rattle.just_eval.specs.Prelude.{unchecked}
use Rattle.just_eval.specs.Prelude.{Step, Stopped, Text, Tree, Value, Verdicts, bind, bindings, bound_innermost, checked, dynamic_meaning}
use Rattle.just_eval.specs.Prelude.{dynamic_meanings, frames_view, gives, pairs_view, parameter_bound, recipe_view, rules_of, seeing, situation_of, valued}
use Rattle.just_eval.specs.Prelude.{without_value, words_of}
use Rattle.just_syntax.specs.declared.parameter.Parameter.{Parameter as Declared}
use Rattle.just_syntax.specs.declared.recipe.Recipe.{Recipe}
use Rattle.just_value.specs.declared.check_fault.CheckFault.{CheckFault}
use Rattle.just_interaction.proofs.Paths.{runs_ends, runs_gives, runs_on, runs_stopped, runs_checked}
use Rattle.just_eval.specs.declared.evaluator.Evaluator.{Evaluator}
use Rattle.just_eval.proofs.Arguments.{checked_value, situation_bound}
use Rattle.just_eval.proofs.Same.{runs_same, same_on}

pub mapped_none : {X Y : Type 0} (f : X → Y) (xs : List X) → length xs ≡ 0 → length (map f xs) ≡ 0
mapped_none f [] none = refl
mapped_none f (x ∷ xs) none = absurd (cc)

-- what the parameters that are left evaluate to, after these words
abbrev further_bindings : Evaluator → Recipe → Evaluator → List Text → List Parameter → List Value → Tree Arguments
further_bindings e recipe f words left arguments = bindings (dynamic_meanings e.context) (recipe_view recipe).name.lexeme (situation_of f) words left arguments

-- The result of the rest from here, after these words, is the result of all from the start.
pub record ParametersLeft {S F : Type 0} (step : Step S) (calls : Shared F (Bor Recipe × (Bor Declared × (Bor Value × Unit {0}))) (Result Unit CheckFault))
    (check : F) (recipe : Recipe) (start : S) (e : Evaluator) (all : List Parameter) (given : List Value)
    (f : Evaluator) (words : List Text) (left : List Parameter) (arguments : List Value) (here : S) : Type 0 where
  pub same : IsSameButScopeAndEnvironment e f
  pub rest : (o : Outcome Arguments) (new : S)
      → Behaves (rules_of e) step (GivesVerdict calls check recipe) here (further_bindings e recipe f words left arguments) o new
      → Behaves (rules_of e) step (GivesVerdict calls check recipe) start (further_bindings e recipe e [] all given) o new

module _ {S F : Type 0} {step : Step S} {calls : Shared F (Bor Recipe × (Bor Declared × (Bor Value × Unit {0}))) (Result Unit CheckFault)} {check : F}
    {recipe : Recipe} {start : S} {e : Evaluator} {all : List Parameter} {given : List Value} where
  pub parameters_start : {words : List Text} {left : List Parameter} {arguments : List Value} → words ≡ [] → left ≡ all → arguments ≡ given
      → ParametersLeft step calls check recipe start e all given e words left arguments start
  parameters_start none same has = rw (none, same, has) (record {
    same = record { base = refl; context = refl; dependency = refl; lists = refl; open_numbers = refl; recipe = refl };
    rest = λ o new r. r;
  })

  module _ {f : Evaluator} {words : List Text} {left : List Parameter} {arguments : List Value} {here : S}
      (from : ParametersLeft step calls check recipe start e all given f words left arguments here) where
    abbrev means : Meanings
    means = dynamic_meanings e.context

    abbrev name : Text
    name = (recipe_view recipe).name.lexeme

    abbrev verdicts : Verdicts
    verdicts = GivesVerdict calls check recipe

    -- how all of them end
    abbrev Whole : Outcome Arguments → S → Type 0
    Whole o new = Behaves (rules_of e) step verdicts start (bindings means name (situation_of e) [] all given) o new

    abbrev made : Arguments
    made = record { frames = frames_view f.scope; words = words; environment = pairs_view f.env }

    pub parameters_all : (length left ≡ 0) ⊎ (length arguments ≡ 0) → Whole (Gave made) here
    parameters_all none =
        from.rest (Gave made) here (subst (λ t. Behaves (rules_of e) step verdicts here t (Gave made) here) (sym (by left arguments none)) (runs_gives made))
      where
        by : (ps : List Parameter) (vs : List Value) → (length ps ≡ 0) ⊎ (length vs ≡ 0) → bindings means name (situation_of f) words ps vs ≡ gives made
        by [] vs h = refl
        by (p ∷ ps) [] h = refl
        by (p ∷ ps) (v ∷ vs) (inl h) = absurd (cc)
        by (p ∷ ps) (v ∷ vs) (inr h) = absurd (cc)

    module _ {p : Parameter} {more : List Parameter} (is : left ≡ p ∷ more) {argument : Value} {further : List Value}
        (has : arguments ≡ argument ∷ further) where
      abbrev checked_argument : Tree Value
      checked_argument = checked (means (situation_of f)) f.is_dependency name p argument

      -- the parameter is bound, and then the rest
      abbrev after_parameter : Value → Tree Arguments
      after_parameter v = bindings means name (seeing (bound_innermost (frames_view f.scope) (parameter_bound f.lists p v)) (situation_of f))
          (words ++ words_of p v) more further

      fronted : {o : Outcome Arguments} {new : S} → Behaves (rules_of e) step verdicts here (bind checked_argument after_parameter) o new → Whole o new
      fronted {o = o} {new = new} r =
          from.rest o new (subst (λ vs. Behaves (rules_of e) step verdicts here (bindings means name (situation_of f) words left vs) o new) (sym has)
          (subst (λ ps. Behaves (rules_of e) step verdicts here (bindings means name (situation_of f) words ps (argument ∷ further)) o new) (sym is) r))

      pub parameter_ends : {new : S} (r : Option Refusal)
          → Behaves (rules_of f) step unchecked here (valued (dynamic_meaning f) f.is_dependency name p argument) (without_value r) new
          → Whole (without_value r) new
      parameter_ends r q =
          fronted (runs_ends checked_argument after_parameter r (runs_ends (valued (means (situation_of f)) f.is_dependency name p argument) _ r
          (runs_checked (runs_same e f from.same (λ m. valued m f.is_dependency name p argument) q))))

      module _ {mid : S} {v : Value} (q : Behaves (rules_of f) step unchecked here (valued (dynamic_meaning f) f.is_dependency name p argument)
          (Gave v) mid) where
        judged_here : (o : Outcome Value) → IsJudged calls check recipe p v o → Behaves (rules_of e) step verdicts here checked_argument o mid
        judged_here o j = checked_value (means (situation_of f)) f.is_dependency name p argument v o
            (runs_same e f from.same (λ m. valued m f.is_dependency name p argument) q) j

        pub check_ends : (r : Option Refusal) → IsJudged calls check recipe p v (without_value r) → Whole (without_value r) mid
        check_ends r j = fronted (runs_ends checked_argument after_parameter r (judged_here (without_value r) j))

        module _ {w : Value} (j : IsJudged calls check recipe p v (Gave w)) where
          pub parameter_stops : Whole Stopped mid
          parameter_stops = fronted (runs_on checked_argument after_parameter (judged_here (Gave w) j) (runs_stopped (after_parameter w)))

          -- the parameter is bound
          pub parameter_next : {g : Evaluator} → IsSameButScopeAndEnvironment f g → g.env ≡ f.env → is_some e.base ≡ true
              → frames_view g.scope ≡ bound_innermost (frames_view f.scope) (parameter_bound f.lists p w)
              → ParametersLeft step calls check recipe start e all given g (words ++ words_of p w) more further mid
          parameter_next {g = g} but env based bound =
              let on_base : is_some f.base ≡ true = subst (λ base. is_some base ≡ true) (sym from.same.base) based in
              record {
                same = same_on e f g from.same but;
                rest = λ o last r. fronted (runs_on checked_argument after_parameter (judged_here (Gave w) j)
                    (subst (λ s. Behaves (rules_of e) step verdicts mid (bindings means name s (words ++ words_of p w) more further) o last)
                    (situation_bound f g (bound_innermost (frames_view f.scope) (parameter_bound f.lists p w)) but env on_base bound) r));
              }
