use Rattle.std.proofs.Common.{◌≡◌, map}
use Rattle.just_reach.specs.Prelude.{assignment_view, function_view, is_referenced_in, members_of_values, members_view}
use Rattle.just_reach.proofs.reach.add_values.Given as goal

-- the members of the remaining values, appended to those so far, are those of all
abbrev pub invariant-loop-assignment : goal.invariant-loop-assignment
invariant-loop-assignment l =
    members_of_values (map function_view l.functions) (is_referenced_in l.references) (members_view l.all.items) (map assignment_view l.assignment-iterator)
    ≡ members_of_values (map function_view l.functions) (is_referenced_in l.references) (members_view l.fn.all.items) (map assignment_view l.assignments)
