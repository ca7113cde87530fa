use Rattle.std.proofs.Common.{◌≡◌, ◌++◌, map}
use Rattle.std.specs.HashMap.{keys}
use Rattle.just_changes.specs.Prelude.{OfVariable, nodes_view}
use Rattle.just_changes.proofs.differences.add_overrides.Given as goal

-- the nodes so far and the remaining ones are all
abbrev pub invariant-loop-number : goal.invariant-loop-number
invariant-loop-number l = nodes_view l.nodes.items ++ map OfVariable l.number-iterator ≡ nodes_view l.fn.nodes.items ++ map OfVariable (keys l.overrides)
