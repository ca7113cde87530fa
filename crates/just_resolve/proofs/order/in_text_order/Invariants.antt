use Rattle.std.proofs.Common.{◌≡◌, ◌++◌, map}
use Rattle.just_resolve.specs.Prelude.{assignment_view}
use Rattle.just_resolve.proofs.order.in_text_order.Given as goal

-- the numbers so far, and those of the remaining assignments, are all
abbrev pub invariant-loop-assignment : goal.invariant-loop-assignment
invariant-loop-assignment l = map (λ p. p.1) l.places.items ++ map (λ a. a.number) (map assignment_view l.assignment-iterator)
    ≡ map (λ a. a.number) (map assignment_view l.assignments)
