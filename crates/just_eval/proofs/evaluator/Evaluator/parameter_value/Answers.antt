use Rattle.std.proofs.Common.{◌≡◌, true, false, length, ap, ◌∙◌, None, option_map}
use Rattle.std.specs.Bool.{◌==◌}
use Rattle.just_eval.specs.Prelude.{Gave, dynamic_meaning, gives, recipe_parameter_view, recipe_view, repeated, valued, view}
use Rattle.just_interaction.proofs.Paths.{runs_done, runs_ends, runs_on, runs_stopped}
use Rattle.just_expression.proofs.Exits.{runs_exit}
use Rattle.just_eval.proofs.Constants.{unless_is}
use Rattle.just_eval.proofs.Valued.{valued_argument, valued_dependency, valued_none, valued_value}
use Rattle.just_eval.proofs.evaluator.Evaluator.parameter_value.Goals as goal
use Rattle.just_eval.proofs.evaluator.Evaluator.parameter_value.Goals.{in_default-via-in-Some-value+else-not-self, in_default-via-in_default}

pub returns-in-None : goal.returns-in-None
returns-in-None g c =
    let empty : (length c.args.argument.now == 0) ≡ true = cc in
    rw (valued_none (dynamic_meaning c.args.self.now) c.args.self.now.is_dependency (recipe_view c.args.recipe.now).name.lexeme
    (recipe_parameter_view c.args.parameter.now) c.args.argument.now None empty (ap (option_map view) c.in-None.is))
    (runs_done _ _ (unless_is _ _ c.no_element.ensures))

pub returns-in_err-value-in-Some-value : goal.returns-in_err-value-in-Some-value
returns-in_err-value-in-Some-value g c =
    let some : (length c.args.argument.now == 0) ≡ false = cc in
    let own : c.args.self.now.is_dependency ≡ false = cc in
    rw (valued_value (dynamic_meaning c.args.self.now) c.args.self.now.is_dependency (recipe_view c.args.recipe.now).name.lexeme
    (recipe_parameter_view c.args.parameter.now) c.args.argument.now _ some (ap (option_map view) c.in-Some-value.is) own)
    (runs_exit _ _ _ c.from_residual.ensures.1 (runs_ends _ _ _ c.in_err-value-in-Some-value.ensures))

pub returns-in_err-repeated-in-Some-value : goal.returns-in_err-repeated-in-Some-value
returns-in_err-repeated-in-Some-value g c =
    let some : (length c.args.argument.now == 0) ≡ false = cc in
    let own : c.args.self.now.is_dependency ≡ false = cc in
    runs_exit _ _ _ c.from_residual-in_err-repeated-in-Some-value.ensures.1
    (rw (valued_value (dynamic_meaning c.args.self.now) c.args.self.now.is_dependency (recipe_view c.args.recipe.now).name.lexeme
    (recipe_parameter_view c.args.parameter.now) c.args.argument.now _ some (ap (option_map view) c.in-Some-value.is) own)
    (runs_on _ _ c.in_ok-value-in-Some-value.ensures (runs_stopped _)))

pub returns-in_err-try_clone-in_default : goal.returns-in_err-try_clone-in_default
returns-in_err-try_clone-in_default g c = runs_exit _ _ _ c.from_residual-in_err-try_clone-in_default.ensures.1 (runs_stopped _)

pub returns-in_ok-repeated-in-Some-value : goal.returns-in_ok-repeated-in-Some-value
returns-in_ok-repeated-in-Some-value g c =
    let some : (length c.args.argument.now == 0) ≡ false = cc in
    let own : c.args.self.now.is_dependency ≡ false = cc in
    rw (valued_value (dynamic_meaning c.args.self.now) c.args.self.now.is_dependency (recipe_view c.args.recipe.now).name.lexeme
    (recipe_parameter_view c.args.parameter.now) c.args.argument.now _ some (ap (option_map view) c.in-Some-value.is) own)
    (runs_on _ _ c.in_ok-value-in-Some-value.ensures
    (runs_done _ _ (ap Gave (c.in_ok-repeated-in-Some-value.ensures ∙ ap (λ n. repeated n c.in_ok-value-in-Some-value.value) c.len.ensures))))

pub returns-in_ok-try_clone-in_default : goal.returns-in_ok-try_clone-in_default
returns-in_ok-try_clone-in_default g c =
    let some : (length c.args.argument.now == 0) ≡ false = cc in
    let is : valued (dynamic_meaning c.args.self.now) c.args.self.now.is_dependency (recipe_view c.args.recipe.now).name.lexeme
    (recipe_parameter_view c.args.parameter.now) c.args.argument.now ≡ gives c.args.argument.now =
    elim c.in_default.branch [
      | in_default-via-in-Some-value+else-not-self w ↦
          let dependency : c.args.self.now.is_dependency ≡ true = cc in
          valued_dependency (dynamic_meaning c.args.self.now) c.args.self.now.is_dependency (recipe_view c.args.recipe.now).name.lexeme
          (recipe_parameter_view c.args.parameter.now) c.args.argument.now _ some (ap (option_map view) w.in-Some-value.is) dependency
      | in_default-via-in_default w ↦
          valued_argument (dynamic_meaning c.args.self.now) c.args.self.now.is_dependency (recipe_view c.args.recipe.now).name.lexeme
          (recipe_parameter_view c.args.parameter.now) c.args.argument.now some (ap (option_map view) w.in_default.is)
    ] in
    rw is (runs_done _ _ (ap Gave c.in_ok-try_clone-in_default.ensures))
