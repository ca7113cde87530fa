use Rattle.just_bench.proofs.settled.Stage.is_resolved.Goals as goal

pub returns : goal.returns
returns c = rw (c.deref.ensures.value) at c.resolved_const.ensures.exact
