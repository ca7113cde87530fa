use Rattle.std.proofs.Common.{◌≡◌, ℕ, map}
use Rattle.std.specs.Option.{option_or}
use Rattle.just_changes.specs.Prelude.{assignment_in, assignment_numbered, assignment_view}
use Rattle.just_changes.proofs.version.by_number.Given as goal

-- what is in the map, or else in the rest, is what is in all
abbrev pub invariant-loop-assignment : goal.invariant-loop-assignment
invariant-loop-assignment l = (n : ℕ) → option_or (assignment_in l.all n) (assignment_numbered (map assignment_view l.assignment-iterator) n)
    ≡ assignment_numbered (map assignment_view l.assignments) n
