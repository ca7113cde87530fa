use Rattle.std.proofs.Common.{◌↔◌, map}
use Rattle.just_resolution.specs.Prelude.{AllNumbered, assignment_view}
use Rattle.just_resolution.proofs.known.are_values_numbered.Given as goal

-- all values are numbered exactly if the remaining ones are
abbrev pub invariant-loop-assignment : goal.invariant-loop-assignment
invariant-loop-assignment l =
    AllNumbered (map (λ a. a.value) (map assignment_view l.assignment-iterator)) ↔ AllNumbered (map (λ a. a.value) (map assignment_view l.assignments))
