use Rattle.std.proofs.Common.{map, drop}
use Rattle.just_resolution.specs.Prelude.{frames_view, parameter_view}
use Rattle.just_resolution.proofs.Faults.{LeadsBound}
use Rattle.just_resolution.proofs.numbers.parameter_fault.Given as goal

-- what is found among the remaining parameters is found among all
abbrev pub invariant-loop-name : goal.invariant-loop-name
invariant-loop-name l = LeadsBound (frames_view l.scope) (map parameter_view (drop l.name-index l.parameters)) (map parameter_view l.parameters)
