use Rattle.std.proofs.Common.{◌≡◌, map, take, drop, Some}
use Rattle.just_syntax.specs.Prelude.{assignment_view, first_unknown, number_named}
use Rattle.just_syntax.proofs.variables.numbers_of.Given as goal

-- the names so far have the numbers so far
abbrev pub invariant-loop-name : goal.invariant-loop-name
invariant-loop-name l = record {
  numbers : map Some l.numbers.items ≡ map (number_named (map assignment_view l.assignments)) (map (λ name. name.now) (take l.name-index l.names));
  known : first_unknown (map assignment_view l.assignments) (map (λ name. name.now) (drop l.name-index l.names))
      ≡ first_unknown (map assignment_view l.assignments) (map (λ name. name.now) l.names);
}
