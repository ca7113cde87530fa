-- What a caller's value check may say, on plain data.
use Rattle.std.specs.Prelude.{◌≡◌, Result, Ok, Err, string_bytes}
use Rattle.std.specs.Borrow.{Bor}
use Rattle.std.specs.Fn.{Shared}
use Rattle.just_syntax.specs.Plain as plain
use Rattle.just_syntax.specs.View.{recipe_parameter_view}
use Rattle.just_syntax.specs.declared.parameter.Parameter.{Parameter}
use Rattle.just_syntax.specs.declared.recipe.Recipe.{Recipe}
use Rattle.just_value.specs.Value.{Value}
use Rattle.just_value.specs.declared.check_fault.CheckFault.{CheckFault}
use Rattle.just_value.specs.declared.check_fault.CheckFault.TheVariants as faults
use Rattle.just_value.specs.Outcome.{Outcome}
use Rattle.just_host.specs.Interaction.{Rejected, Passed, Undecided, Verdict}
use Rattle.just_meaning.specs.Parameters.{judged}

-- the verdict in a check's answer
abbrev pub verdict_view : Result Unit CheckFault → Verdict
verdict_view (Ok _) = Passed
verdict_view (Err (faults.Refused message)) = Rejected (string_bytes message)
verdict_view (Err faults.OutOfMemory) = Undecided

-- For this recipe, some parameter that reads as `p`, and the value `v`, the check may give the verdict `a`.
pub record GivesVerdict {F : Type 0} (calls : Shared F (Bor Recipe × (Bor Parameter × (Bor Value × Unit {0})))
    (Result Unit CheckFault)) (check : F) (recipe : Recipe) (p : plain.Parameter) (v : Value)
    (a : Verdict) : Type 0 where
  pub recipe_ref : Bor Recipe
  pub parameter_ref : Bor Parameter
  pub value_ref : Bor Value
  pub answer : Result Unit CheckFault
  pub says : calls.post check (recipe_ref, (parameter_ref, (value_ref, tt))) answer
  pub at_recipe : recipe_ref.now ≡ recipe
  pub at_parameter : recipe_parameter_view parameter_ref.now ≡ p
  pub at_value : value_ref.now ≡ v
  pub is : verdict_view answer ≡ a

-- A value is checked, and the outcome is that of one of the verdicts that the check may give.
pub record IsJudged {F : Type 0} (calls : Shared F (Bor Recipe × (Bor Parameter × (Bor Value × Unit {0})))
    (Result Unit CheckFault)) (check : F) (recipe : Recipe) (p : plain.Parameter) (v : Value)
    (o : Outcome Value) : Type 0 where
  pub verdict : Verdict
  pub given : GivesVerdict calls check recipe p v verdict
  pub outcome_is : o ≡ judged p v verdict
