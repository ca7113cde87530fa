use Rattle.just_bench.proofs.References.{same_references}
use Rattle.just_bench.proofs.module_run.ModuleRun.is_resolved.Goals as goal

pub returns : goal.returns
returns c = rw (same_references c.as_ref.result c.args.self.now.references c.as_ref.ensures.value) at c.resolved.ensures.exact
