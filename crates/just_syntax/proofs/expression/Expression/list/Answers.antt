use Rattle.just_syntax.proofs.Rows.{view_list}
use Rattle.just_syntax.proofs.expression.Expression.list.Goals as goal

pub returns : goal.returns
returns c = view_list c.args.elements c.args.token
