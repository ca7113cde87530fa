use Rattle.just_syntax.proofs.Rows.{view_call}
use Rattle.just_syntax.proofs.expression.Expression.call.Goals as goal

pub returns : goal.returns
returns c = view_call c.args.arguments c.args.name
