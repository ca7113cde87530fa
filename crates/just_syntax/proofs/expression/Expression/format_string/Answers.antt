use Rattle.just_syntax.proofs.Rows.{view_format_string}
use Rattle.just_syntax.proofs.expression.Expression.format_string.Goals as goal

pub returns : goal.returns
returns c = view_format_string c.args.start c.args.expressions
