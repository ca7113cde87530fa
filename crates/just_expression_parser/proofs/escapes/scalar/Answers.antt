use Rattle.just_expression_parser.proofs.Unescaped.{scalar_is}
use Rattle.just_expression_parser.proofs.escapes.scalar.Goals as goal

pub returns : goal.returns
returns c = scalar_is c.args.n c.from_u32.result c.from_u32.ensures.value c.from_u32.ensures.cases
