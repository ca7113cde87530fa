use Rattle.std.proofs.Common.{Some, ap, map}
use Rattle.just_bench.specs.Prelude.{Gave, bound_view, frames_view, module_run_view, name_view}
use Rattle.just_bench.proofs.OneName.{extends_first}
use Rattle.just_bench.proofs.module_run.ModuleRun.extend.Goals as goal

pub returns-in_ok-bind-in-Ok-Some-clause-extends : goal.returns-in_ok-bind-in-Ok-Some-clause-extends
returns-in_ok-bind-in-Ok-Some-clause-extends g c =
    let (given, ran, found) = rw (c.in-Ok-Some.is, c.in-Ok-Some.field-0-is) at c.in_ok-binding.ensures in
    extends_first (module_run_view c.args.self.now) (map name_view c.in_ok-self.field-0.items) (name_view c.args.name) given
    (Gave (Some (bound_view c.in-Ok-Some.binding))) (Gave (frames_view c.bind.new.self))
    (ap (map name_view) c.in_ok-self.ensures.items) ran found (ap Gave c.in_ok-bind-in-Ok-Some.ensures.ok)
