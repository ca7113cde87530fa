-- How a recipe's attributes and parameters are evaluated.
use Rattle.std.proofs.Common.{◌≡◌, Bool, true, List, Option, Some, None, refl, sym, ap, ◌∙◌, subst, Bor, is_some, option_map, Result}
use Rattle.std.specs.Fn.{Shared}
use Rattle.just_syntax.specs.Plain as plain
use Rattle.just_eval.specs.Prelude.{Behaves, Expr, Frames, Gave, GivesVerdict, IsJudged, IsSameButScopeAndEnvironment, Outcome, Rules, Situation, unchecked}
use Rattle.just_eval.specs.Prelude.{Step, Text, Tree, Value, below_of, checked, frames_view, judged, name_view, pairs_view, seeing, situation_of, value_in}
use Rattle.just_eval.specs.Prelude.{valued}
use Rattle.just_syntax.specs.declared.name.Name.{Name}
use Rattle.just_syntax.specs.declared.parameter.Parameter.{Parameter}
use Rattle.just_syntax.specs.declared.recipe.Recipe.{Recipe}
use Rattle.just_value.specs.declared.check_fault.CheckFault.{CheckFault}
use Rattle.just_value.specs.declared.scope.Scope.{Scope}
use Rattle.just_host.specs.Interaction.{check, done}
use Rattle.just_interaction.proofs.Paths.{runs_check, runs_on, runs_checked}
use Rattle.just_eval.specs.declared.evaluator.Evaluator.{Evaluator}

-- ---- situations

-- the situation of an evaluator, with another environment, other frames to read and others below a called body's
abbrev placed_situation : Evaluator → List (Text × Text) → Frames → Frames → Situation
placed_situation e environment shown below = record (situation_of e) { names = value_in shown; environment = environment; shown = shown; below = below }

-- the situation of an evaluator that differs only in its scope and environment
situation_but : (e f : Evaluator) → IsSameButScopeAndEnvironment e f
    → situation_of f ≡ placed_situation e (pairs_view f.env) (frames_view f.scope) (below_of e.base (frames_view f.scope))
situation_but e f same = λ i. record {
  names = value_in (frames_view f.scope);
  environment = pairs_view f.env;
  recipe = option_map (λ (n : Name). (name_view n).lexeme) (same.recipe i);
  is_dependency = same.dependency i;
  lists = same.lists i;
  shown = frames_view f.scope;
  below = below_of (same.base i) (frames_view f.scope);
}

-- with one more variable
pub situation_set : (e f : Evaluator) → IsSameButScopeAndEnvironment e f → f.scope ≡ e.scope
    → situation_of f ≡ record (situation_of e) { environment = pairs_view f.env }
situation_set e f same scope =
    situation_but e f same ∙ ap (λ (s : Scope). placed_situation e (pairs_view f.env) (frames_view s) (below_of e.base (frames_view s))) scope

-- with one more parameter
pub situation_bound : (e f : Evaluator) (frames : Frames) → IsSameButScopeAndEnvironment e f → f.env ≡ e.env → is_some e.base ≡ true
    → frames_view f.scope ≡ frames → situation_of f ≡ seeing frames (situation_of e)
situation_bound e f frames same env based is = situation_but e f same ∙ by e.base refl based
  where
    by : (base : Option (Bor Scope)) → e.base ≡ base → is_some base ≡ true
        → placed_situation e (pairs_view f.env) (frames_view f.scope) (below_of base (frames_view f.scope))
        ≡ placed_situation e (pairs_view e.env) frames (below_of base (frames_view e.scope))
    by (Some base) e' some = λ i. placed_situation e (pairs_view (env i)) (is i) (frames_view base.now)
    by None e' some = absurd (cc)

-- ---- one parameter

-- its value, and the verdict of the check
pub checked_value : {S F : Type 0} {rules : Rules} {step : Step S} {old mid : S} {calls : Shared F (Bor Recipe × (Bor Parameter × (Bor Value × Unit {0})))
    (Result Unit CheckFault)} {f : F} {r : Recipe}
    (means : Expr → Tree Value) (is_dependency : Bool) (recipe : Text) (p : plain.Parameter) (argument v : Value) (o : Outcome Value)
    → Behaves rules step unchecked old (valued means is_dependency recipe p argument) (Gave v) mid → IsJudged calls f r p v o
    → Behaves rules step (GivesVerdict calls f r) old (checked means is_dependency recipe p argument) o mid
checked_value {rules = rules} {step = step} {mid = mid} {calls = calls} {f = f} {r = r} means is_dependency recipe p argument v o run judgement =
    runs_on (valued means is_dependency recipe p argument) _ (runs_checked run)
    (subst (λ x. Behaves rules step (GivesVerdict calls f r) mid (check p v (λ a. done (judged p v a))) x mid) (sym judgement.outcome_is)
    (runs_check p v judgement.verdict (judged p v) judgement.given))
