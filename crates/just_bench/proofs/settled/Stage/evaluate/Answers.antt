use Rattle.just_bench.proofs.settled.Stage.evaluate.Goals as goal

pub returns : goal.returns
returns c = rw (c.deref.ensures.value) at c.evaluate_const_assignments.ensures.headline
