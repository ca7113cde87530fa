use Rattle.std.proofs.Common.{map, drop}
use Rattle.just_resolution.specs.Prelude.{is_member, parameter_view}
use Rattle.just_resolution.proofs.Numbering.{IsCountedTo}
use Rattle.just_resolution.proofs.numbers.number_fault.Given as goal

abbrev pub invariant-loop-name : goal.invariant-loop-name
invariant-loop-name l = IsCountedTo (is_member l.seen) (map parameter_view (drop l.name-index l.numbers)) (map parameter_view l.numbers)
