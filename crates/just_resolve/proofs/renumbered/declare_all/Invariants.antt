use Rattle.std.proofs.Common.{◌≡◌, ◌++◌, ℕ, List, map}
use Rattle.just_resolve.specs.Prelude.{AreTaken, Assignment, Frames, assignment_view, declared_view, frames_view}
use Rattle.just_resolve.proofs.renumbered.declare_all.Given as goal

-- the assignments so far and the remaining ones are all, and the numbers so far were taken
pub record IsDeclared (outer : Frames) (start : ℕ) (all rest : List Assignment) (declared : List (Assignment × ℕ)) (end : ℕ) : Type 0 where
  pub same : map (λ d. d.0) declared ++ rest ≡ all
  pub taken : AreTaken outer start (map (λ d. d.1) declared) end

abbrev pub invariant-loop-assignment : goal.invariant-loop-assignment
invariant-loop-assignment l = IsDeclared (frames_view l.outer) l.fn.free.next (map assignment_view l.assignments) (map assignment_view l.assignment-iterator)
    (map declared_view l.all.items) l.free.next
