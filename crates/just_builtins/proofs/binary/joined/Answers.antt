use Rattle.std.proofs.Common.{◌∙◌, add-one}
use Rattle.std.specs.Path.{path_buf_bytes}
use Rattle.just_builtins.proofs.Paths.{one_more}
use Rattle.just_builtins.proofs.binary.joined.Goals as goal

pub loop-i-preserved : goal.loop-i-preserved
loop-i-preserved c =
    rw add-one (one_more (path_buf_bytes c.loop-i.path) _ _ c.args.arguments.now c.loop-i.i c.loop-i-test.true c.text_at.ensures c.in_ok-push.ensures.ok
    ∙ c.loop-i.invariant)
