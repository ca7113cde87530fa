use Rattle.std.proofs.Common.{◌≡◌, ◌++◌, map}
use Rattle.just_resolution.specs.Prelude.{assignment_view, numbered_assignments, parameter_view}
use Rattle.just_resolution.proofs.numbers.assignment_numbers.Given as goal

-- the numbers so far and the remaining ones are all
abbrev pub invariant-loop-assignment : goal.invariant-loop-assignment
invariant-loop-assignment l = map parameter_view l.numbers.items ++ numbered_assignments (map assignment_view l.assignment-iterator)
    ≡ numbered_assignments (map assignment_view l.assignments)
