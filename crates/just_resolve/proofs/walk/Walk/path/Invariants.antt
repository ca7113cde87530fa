use Rattle.std.proofs.Common.{◌≡◌, map, take}
use Rattle.just_resolve.specs.Prelude.{path_in, step_view, variables_in}
use Rattle.just_resolve.proofs.walk.Walk.path.Given as goal

-- the variables of the steps so far
abbrev pub invariant-loop-step : goal.invariant-loop-step
invariant-loop-step l = l.path.items ≡ variables_in (path_in (map step_view (take l.step-index l.self.steps.items)))
