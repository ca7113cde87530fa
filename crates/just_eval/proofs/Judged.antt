-- The outcome of a call of a value check.
use Rattle.std.proofs.Common.{◌≡◌, Bor, Result, refl}
use Rattle.std.specs.Fn.{Shared}
use Rattle.just_eval.specs.Prelude.{IsJudged, Outcome, Value, judged, recipe_parameter_view, verdict_view}
use Rattle.just_syntax.specs.declared.parameter.Parameter.{Parameter}
use Rattle.just_syntax.specs.declared.recipe.Recipe.{Recipe}
use Rattle.just_value.specs.declared.check_fault.CheckFault.{CheckFault}

-- the outcome is that of the check's verdict
pub judged_by : {F : Type 0} (calls : Shared F (Bor Recipe × (Bor Parameter × (Bor Value × Unit {0}))) (Result Unit CheckFault)) (check : F) (r : Bor Recipe)
    (p : Bor Parameter) (v : Bor Value) (answer : Result Unit CheckFault) (o : Outcome Value)
    → calls.post check (r, (p, (v, tt))) answer → o ≡ judged (recipe_parameter_view p.now) v.now (verdict_view answer)
    → IsJudged calls check r.now (recipe_parameter_view p.now) v.now o
judged_by calls check r p v answer o says outcome_is = record {
  verdict = verdict_view answer;
  given = record {
    recipe_ref = r;
    parameter_ref = p;
    value_ref = v;
    answer = answer;
    says = says;
    at_recipe = refl;
    at_parameter = refl;
    at_value = refl;
    is = refl;
  };
  outcome_is = outcome_is;
}
