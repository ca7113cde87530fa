use Rattle.just_value.proofs.Scopes.{parent_is}
use Rattle.just_value.proofs.scope.Scope.parent.Goals as goal

pub returns : goal.returns
returns c = parent_is c.args.self.now
