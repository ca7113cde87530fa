use Rattle.std.proofs.Common.{arith}
use Rattle.std.proofs.lemmas.Grind.{common_steps}
use Rattle.just_report.proofs.Signs.{bar_is}
use Rattle.just_report.proofs.report.push_source.Goals as goal

pub returns : goal.returns
returns c = grind (arith, common_steps, bar_is)
