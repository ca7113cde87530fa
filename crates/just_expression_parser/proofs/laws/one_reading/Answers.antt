use Rattle.just_expression_parser.proofs.Derived.{one_reading}
use Rattle.just_expression_parser.proofs.laws.one_reading.Goals as goal

pub returns : goal.returns
returns c = one_reading
