use Rattle.std.proofs.Common.{◌∙◌}
use Rattle.just_eval.specs.Prelude.{bound_view}
use Rattle.just_eval.proofs.There.{is_there}
use Rattle.just_eval.proofs.evaluator.Evaluator.is_bound.Goals as goal

pub returns : goal.returns
returns c = c.is_some.ensures ∙ is_there (λ b. bound_view b.now) c.binding.result _ c.binding.ensures
