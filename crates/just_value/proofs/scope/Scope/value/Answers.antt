use Rattle.just_value.specs.Prelude.{bound_view, frames_view}
use Rattle.just_value.proofs.Values.{value_found, value_missing}
use Rattle.just_value.proofs.scope.Scope.value.Goals as goal

pub returns-in-Some : goal.returns-in-Some
returns-in-Some c =
    value_found (λ b. bound_view b.now) c.binding.result c.in-Some.binding c.args.number (frames_view c.args.self.now) c.binding.ensures c.in-Some.is

pub returns-in-None : goal.returns-in-None
returns-in-None c = value_missing (λ b. bound_view b.now) c.binding.result c.args.number (frames_view c.args.self.now) c.binding.ensures c.in-None.is
