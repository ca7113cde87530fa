use Rattle.just_expression_parser.proofs.Sound.{derives_what_is_read}
use Rattle.just_expression_parser.proofs.laws.derives_what_is_read.Goals as goal

pub returns : goal.returns
returns c = derives_what_is_read
