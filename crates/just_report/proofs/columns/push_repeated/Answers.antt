use Rattle.std.proofs.Common.{arith}
use Rattle.std.proofs.lemmas.Grind.{common_steps}
use Rattle.just_report.proofs.Repeated.{repeat_last}
use Rattle.just_report.proofs.columns.push_repeated.Goals as goal

pub loop-done-preserved : goal.loop-done-preserved
loop-done-preserved c =
    let one = repeat_last c.loop-done.done c.args.mark in
    let ascii = c.in_ok-push.ensures.ascii c.requires in
    grind (arith, common_steps, one, ascii)
