use Rattle.just_parser.proofs.ReadItems.{refuses_early}
use Rattle.just_parser.proofs.laws.refuses_early.Goals as goal

pub returns : goal.returns
returns c = refuses_early
