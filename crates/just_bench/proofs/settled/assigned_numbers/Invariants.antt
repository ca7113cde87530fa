use Rattle.std.proofs.Common.{◌≡◌, ◌||◌, ℕ, map}
use Rattle.just_bench.specs.Prelude.{assigned_in, assignment_view, number_set_view}
use Rattle.just_bench.proofs.settled.assigned_numbers.Given as goal

-- the numbers so far, and those of the remaining assignments
abbrev pub invariant-loop-assignment : goal.invariant-loop-assignment
invariant-loop-assignment l =
    (n : ℕ) → (number_set_view l.numbers n || assigned_in (map assignment_view l.assignment-iterator) n) ≡ assigned_in (map assignment_view l.assignments) n
