use Rattle.std.proofs.Common.{◌≡◌, ◌++◌, map}
use Rattle.just_changes.specs.Prelude.{OfVariable, assignment_view, nodes_view}
use Rattle.just_changes.proofs.differences.add_assignments.Given as goal

-- the nodes so far and the remaining ones are all
abbrev pub invariant-loop-assignment : goal.invariant-loop-assignment
invariant-loop-assignment l =
    nodes_view l.nodes.items ++ map (λ a. OfVariable a.number) (map assignment_view l.assignment-iterator)
    ≡ nodes_view l.fn.nodes.items ++ map (λ a. OfVariable a.number) (map assignment_view l.assignments)
