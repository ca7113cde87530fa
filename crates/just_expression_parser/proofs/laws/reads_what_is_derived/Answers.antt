use Rattle.just_expression_parser.proofs.Derived.{reads_what_is_derived}
use Rattle.just_expression_parser.proofs.laws.reads_what_is_derived.Goals as goal

pub returns : goal.returns
returns c = reads_what_is_derived
