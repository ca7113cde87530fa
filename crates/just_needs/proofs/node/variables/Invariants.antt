use Rattle.std.proofs.Common.{◌≡◌, ◌++◌, map}
use Rattle.just_needs.specs.Prelude.{OfVariable, nodes_view}
use Rattle.just_needs.proofs.node.variables.Given as goal

-- the nodes so far and the remaining ones are all
abbrev pub invariant-loop-number : goal.invariant-loop-number
invariant-loop-number l = nodes_view l.nodes.items ++ map OfVariable l.number-iterator ≡ map OfVariable l.numbers.keys
