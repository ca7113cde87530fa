use Rattle.std.proofs.Common.{map, take}
use Rattle.just_resolve.specs.Prelude.{HasNames, assignment_view, name_view}
use Rattle.just_resolve.proofs.order.names_of.Given as goal

-- the names of the numbers so far
abbrev pub invariant-loop-number : goal.invariant-loop-number
invariant-loop-number l = HasNames (map assignment_view l.assignments) (take l.number-index l.numbers) (map name_view l.names.items)
