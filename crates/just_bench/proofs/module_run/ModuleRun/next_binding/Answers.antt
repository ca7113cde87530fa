use Rattle.std.proofs.Common.{ap, ◌∙◌}
use Rattle.std.specs.Map.{values_of}
use Rattle.just_bench.specs.Prelude.{Gave, dynamically, first_bound, frames_view, module_run_view, own_frame, refusal, without_value}
use Rattle.just_bench.proofs.Outcomes.{refused_then}
use Rattle.just_bench.proofs.Attributes.{first_given}
use Rattle.just_bench.proofs.module_run.ModuleRun.next_binding.Goals as goal

pub returns-in_ok-first_binding-in-Ok : goal.returns-in_ok-first_binding-in-Ok
returns-in_ok-first_binding-in-Ok g c =
    let m = module_run_view c.args.self.now in
    let outer = frames_view c.args.scope.now in
    let own = frames_view c.in-Ok.bound in (
      Gave own,
      c.in-Ok.ensures.dynamic,
      ap Gave (c.in_ok-first_binding-in-Ok.ensures ∙ first_given dynamically m outer m.assignments.order own c.in-Ok.ensures.dynamic),
    )

pub returns-in-Err : goal.returns-in-Err
returns-in-Err g c =
    let r = refusal c.in-Err.error in
    (without_value r, c.in-Err.ensures.dynamic, refused_then r (λ own. Gave (first_bound (values_of (own_frame own)))))
