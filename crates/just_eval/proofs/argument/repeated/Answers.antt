use Rattle.std.proofs.Common.{ap, ◌++◌, ◌∙◌}
use Rattle.just_eval.proofs.Repeated.{once_more}
use Rattle.just_eval.proofs.argument.repeated.Goals as goal

pub loop-preserved : goal.loop-preserved
loop-preserved c =
    c.in_ok-all.ensures ∙ ap (λ v. c.loop.all ++ v) c.in_ok-try_clone.ensures ∙ ap (λ v. v ++ c.args.value.now) c.loop.invariant
    ∙ once_more c.args.value.now c.loop.counter
