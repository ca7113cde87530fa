-- Evaluators that differ only in their scope and environment.
use Rattle.std.proofs.Common.{◌∙◌, subst, sym, nat_eq}
use Rattle.std.specs.List.{list_any}
use Rattle.just_eval.specs.Prelude.{Behaves, Expr, IsSameButScopeAndEnvironment, MayCall, MayCallIn, Outcome, Step, Tree, Value, dynamic_meaning}
use Rattle.just_eval.specs.Prelude.{dynamic_meanings, unchecked}
use Rattle.just_eval.specs.Prelude.{rules_in, rules_of, situation_of, stage_state_of}
use Rattle.just_eval.specs.declared.evaluator.Evaluator.{Evaluator}

pub same_on : (e f g : Evaluator) → IsSameButScopeAndEnvironment e f → IsSameButScopeAndEnvironment f g → IsSameButScopeAndEnvironment e g
same_on e f g one more = record {
  base = more.base ∙ one.base;
  context = more.context ∙ one.context;
  dependency = more.dependency ∙ one.dependency;
  lists = more.lists ∙ one.lists;
  open_numbers = more.open_numbers ∙ one.open_numbers;
  recipe = more.recipe ∙ one.recipe;
}

module _ (e f : Evaluator) (same : IsSameButScopeAndEnvironment e f) where
  pub same_may_call : MayCall e → MayCall f
  same_may_call may_call = subst MayCallIn (sym same.context) may_call

  -- such an evaluator runs trees by the same rules
  pub runs_same : {S A : Type 0} {step : Step S} {old new : S} {o : Outcome A} (make : (Expr → Tree Value) → Tree A)
      → Behaves (rules_of f) step unchecked old (make (dynamic_meaning f)) o new
      → Behaves (rules_of e) step unchecked old (make (dynamic_meanings e.context (situation_of f))) o new
  runs_same {step = step} {old = old} {new = new} {o = o} make r =
      subst (λ set. Behaves (rules_in e.context (λ n. list_any (nat_eq n) set.keys)) step unchecked old
      (make (dynamic_meanings e.context (situation_of f))) o new)
      same.open_numbers
      (subst (λ context. Behaves (rules_in context (stage_state_of f).is_open) step unchecked old
      (make (dynamic_meanings context (situation_of f))) o new) same.context r)
