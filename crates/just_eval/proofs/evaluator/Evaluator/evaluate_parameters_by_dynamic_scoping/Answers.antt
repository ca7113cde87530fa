use Rattle.std.proofs.Common.{◌≡◌, [], ◌∷◌, map, refl, ap, ◌∙◌, Some}
use Rattle.just_eval.specs.Prelude.{frames_view, pairs_view, recipe_in, recipe_parameter_view, recipe_start, recipe_view, situation_of}
use Rattle.just_interaction.proofs.Paths.{runs_stopped}
use Rattle.just_expression.proofs.Exits.{runs_exit}
use Rattle.just_eval.proofs.Evaluated.{attributes_end, bound, miscounted, other_count, same_count}
use Rattle.just_eval.proofs.evaluator.Evaluator.evaluate_parameters_by_dynamic_scoping.Given.{Over}
use Rattle.just_eval.proofs.evaluator.Evaluator.evaluate_parameters_by_dynamic_scoping.Goals.{After-evaluate_attributes}
use Rattle.just_eval.proofs.evaluator.Evaluator.evaluate_parameters_by_dynamic_scoping.Goals as goal

-- the evaluator begins in the situation of the recipe
at_start : (g : Over) (c : goal.After-evaluate_attributes g) → situation_of c.in_ok-evaluator.evaluator
    ≡ (recipe_start c.args.context.now c.args.is_dependency c.args.recipe.now c.args.scope.now).situation
at_start g c =
    let none : pairs_view c.new-env.result ≡ [] = rw c.new-env.ensures.empty refl in
    c.in_ok-evaluator.ensures.situation
    ∙ ap (λ variables. (recipe_in c.args.context.now variables c.args.is_dependency (Some (recipe_view c.args.recipe.now).name.lexeme)
    ([] ∷ frames_view c.args.scope.now)).situation) none

pub returns-in_err-evaluator : goal.returns-in_err-evaluator
returns-in_err-evaluator g c = runs_exit _ _ _ c.from_residual.ensures.1 (runs_stopped _)

pub returns-in_err-evaluate_attributes : goal.returns-in_err-evaluate_attributes
returns-in_err-evaluate_attributes g c =
    let start = at_start g (goal.at.returns-in_err-evaluate_attributes g c).After-evaluate_attributes in
    runs_exit _ _ _ c.from_residual-in_err-evaluate_attributes.ensures.1
    (attributes_end _ _ (recipe_view c.args.recipe.now) (map recipe_parameter_view c.args.parameters.now) c.args.arguments.now c.in_ok-evaluator.evaluator
    c.in_ok-evaluator.ensures.context start _ c.in_err-evaluate_attributes.ensures.environment)

pub returns-then-arguments-parameters : goal.returns-then-arguments-parameters
returns-then-arguments-parameters g c =
    let start = at_start g (goal.at.returns-then-arguments-parameters g c).After-evaluate_attributes in
    let same = c.in_ok-evaluate_attributes.ensures.same in
    miscounted _ _ (recipe_view c.args.recipe.now) (map recipe_parameter_view c.args.parameters.now) c.args.arguments.now c.in_ok-evaluator.evaluator
    c.in_ok-evaluator.ensures.context start same.0 same.1 c.in_ok-evaluate_attributes.ensures.environment
    (other_count recipe_parameter_view c.args.arguments.now c.args.parameters.now c.if-arguments-parameters.true) _ c.error_at.ensures

pub returns-in_err-words : goal.returns-in_err-words
returns-in_err-words g c =
    let start = at_start g (goal.at.returns-in_err-words g c).After-evaluate_attributes in
    let same = c.in_ok-evaluate_attributes.ensures.same in
    runs_exit _ _ _ c.from_residual-in_err-words.ensures.1
    (bound _ _ (recipe_view c.args.recipe.now) (map recipe_parameter_view c.args.parameters.now) c.args.arguments.now c.in_ok-evaluator.evaluator
    c.in_ok-evaluator.ensures.context start same.0 same.1 c.in_ok-evaluate_attributes.ensures.environment
    (same_count recipe_parameter_view c.args.arguments.now c.args.parameters.now c.if-arguments-parameters.false) c.in_err-words.ensures)

pub returns : goal.returns
returns g c =
    let start = at_start g (goal.at.returns g c).After-evaluate_attributes in
    let same = c.in_ok-evaluate_attributes.ensures.same in
    bound _ _ (recipe_view c.args.recipe.now) (map recipe_parameter_view c.args.parameters.now) c.args.arguments.now c.in_ok-evaluator.evaluator
    c.in_ok-evaluator.ensures.context start same.0 same.1 c.in_ok-evaluate_attributes.ensures.environment
    (same_count recipe_parameter_view c.args.arguments.now c.args.parameters.now c.if-arguments-parameters.false) c.in_ok-words.ensures
