use Rattle.std.proofs.Common.{arith}
use Rattle.std.proofs.lemmas.Grind.{common_steps}
use Rattle.just_report.proofs.Signs.{arrow_is}
use Rattle.just_report.proofs.report.push_place.Goals as goal

pub returns : goal.returns
returns c = rw arrow_is (grind (arith, common_steps))
