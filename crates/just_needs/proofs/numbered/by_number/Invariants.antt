use Rattle.std.proofs.Common.{◌≡◌, ◌++◌, ℕ, map}
use Rattle.just_needs.specs.Prelude.{assignment_view, values_in, values_numbered}
use Rattle.just_needs.proofs.numbered.by_number.Given as goal

-- the values so far, and those of the remaining assignments, are all
abbrev pub invariant-loop-assignment : goal.invariant-loop-assignment
invariant-loop-assignment l = (n : ℕ) → values_in l.all n ++ values_numbered (map assignment_view l.assignment-iterator) n
    ≡ values_numbered (map assignment_view l.assignments) n
