use Rattle.std.proofs.Common.{◌≡◌, ◌++◌, map}
use Rattle.just_changes.specs.Prelude.{OfFunction, function_view, nodes_view}
use Rattle.just_changes.proofs.differences.add_functions.Given as goal

-- the nodes so far and the remaining ones are all
abbrev pub invariant-loop-function : goal.invariant-loop-function
invariant-loop-function l =
    nodes_view l.nodes.items ++ map (λ f. OfFunction f.name.lexeme) (map function_view l.function-iterator)
    ≡ nodes_view l.fn.nodes.items ++ map (λ f. OfFunction f.name.lexeme) (map function_view l.functions)
