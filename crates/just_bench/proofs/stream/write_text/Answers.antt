use Rattle.just_bench.proofs.Fronts.{more_added}
use Rattle.just_bench.proofs.stream.write_text.Goals as goal

pub loop-rest-preserved : goal.loop-rest-preserved
loop-rest-preserved g c = more_added _ _ _ _ _ _ c.loop-rest.invariant c.in_ok-count.ensures.bytes
