use Rattle.std.proofs.Common.{map, sym, ◌∙◌}
use Rattle.std.proofs.lemmas.List.{length-map}
use Rattle.just_eval.specs.Prelude.{Arguments, HaveOneElement, arguments_view, frames_view, own_frame, recipe_parameter_view, recipe_view}
use Rattle.just_eval.proofs.Recipes.{answered, headline, if_given, never_const, never_internal, one_element}
use Rattle.just_eval.proofs.evaluator.Evaluator.evaluate_parameters.Goals as goal

pub returns-clause-headline : goal.returns-clause-headline
returns-clause-headline g c = headline c.args.context.now c.args.is_dependency (frames_view c.args.scope.now) (recipe_view c.args.recipe.now)
    (map recipe_parameter_view c.args.parameters.now) c.args.arguments.now c.evaluate_parameters_by_dynamic_scoping.ensures

pub returns-clause-never_internal : goal.returns-clause-never_internal
returns-clause-never_internal g c = λ resolved count. never_internal c.args.context.now c.args.is_dependency (frames_view c.args.scope.now)
    (recipe_view c.args.recipe.now) (map recipe_parameter_view c.args.parameters.now) c.args.arguments.now c.evaluate_parameters_by_dynamic_scoping.ensures
    resolved (count ∙ sym (length-map c.args.parameters.now recipe_parameter_view))

pub returns-clause-never_const : goal.returns-clause-never_const
returns-clause-never_const g c = never_const c.args.context.now c.args.is_dependency (frames_view c.args.scope.now) (recipe_view c.args.recipe.now)
    (map recipe_parameter_view c.args.parameters.now) c.args.arguments.now c.evaluate_parameters_by_dynamic_scoping.ensures

pub returns-clause-answered : goal.returns-clause-answered
returns-clause-answered g c = answered c.args.context.now c.args.is_dependency (frames_view c.args.scope.now) (recipe_view c.args.recipe.now)
    (map recipe_parameter_view c.args.parameters.now) c.args.arguments.now c.evaluate_parameters_by_dynamic_scoping.ensures

pub returns-clause-one_element : goal.returns-clause-one_element
returns-clause-one_element g c = λ off. if_given (λ (a : Arguments). HaveOneElement (own_frame a.frames)) arguments_view
    c.evaluate_parameters_by_dynamic_scoping.result (one_element c.args.context.now c.args.is_dependency (frames_view c.args.scope.now)
    (recipe_view c.args.recipe.now) (map recipe_parameter_view c.args.parameters.now) c.args.arguments.now c.evaluate_parameters_by_dynamic_scoping.ensures
    off)
