use Rattle.std.proofs.Common.{◌≡◌, List, [], ◌∷◌, Some, option_map, ◌↔◌}
use Rattle.just_eval.specs.Prelude.{Expr, IsResolvedWith, Resolves, frames_view, name_view, pairs_view, recipe_in, situation_of}
use Rattle.just_eval.proofs.Recipes.{if_both, resolves_with}
use Rattle.just_eval.proofs.evaluator.Evaluator.new.Goals as goal

pub returns-clause-resolved : goal.returns-clause-resolved
returns-clause-resolved c =
    if_both (λ e. e.context ≡ Some c.args.context.now)
    (λ e. situation_of e ≡ (recipe_in c.args.context.now (pairs_view c.args.env) c.args.is_dependency (option_map (λ n. (name_view n).lexeme) c.args.recipe)
    ([] ∷ frames_view c.args.scope.now)).situation)
    (λ e. (es : List Expr) → Resolves e es ↔ IsResolvedWith c.args.context.now ([] ∷ frames_view c.args.scope.now) [] [] es) c.new_by_dynamic_scoping.result
    (λ e context situation es. resolves_with c.args.context.now _ c.args.is_dependency _ (frames_view c.args.scope.now) e es context situation)
    c.new_by_dynamic_scoping.ensures.context c.new_by_dynamic_scoping.ensures.situation
