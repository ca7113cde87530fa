use Rattle.std.proofs.Common.{◌↔◌, ◌⊎◌, ℕ, IsTrue, map}
use Rattle.just_needs.specs.Prelude.{IsFollowed, assignment_view, frames_view, is_member}
use Rattle.just_needs.proofs.numbered.followed_numbers.Given as goal

-- the numbers so far, and those of the remaining assignments, are all
abbrev pub invariant-loop-assignment : goal.invariant-loop-assignment
invariant-loop-assignment l = (n : ℕ)
    → (IsTrue (is_member l.followed n) ⊎ IsFollowed (map assignment_view l.assignment-iterator) (frames_view l.outer) n)
    ↔ IsFollowed (map assignment_view l.assignments) (frames_view l.outer) n
