use Rattle.std.proofs.Common.{◌≡◌, map, take}
use Rattle.just_resolve.specs.Prelude.{declared_view, parameter_view}
use Rattle.just_resolve.proofs.renumbered.variables.Given as goal

-- the assignments so far
abbrev pub invariant-loop-one : goal.invariant-loop-one
invariant-loop-one l = map parameter_view l.variables.items ≡ map (λ d. (d.0.name, d.1)) (map declared_view (take l.one-index l.declared))
