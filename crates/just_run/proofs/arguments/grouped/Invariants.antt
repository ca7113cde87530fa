use Rattle.std.proofs.Common.{◌≡◌, ◌++◌, drop, map}
use Rattle.just_syntax.specs.Prelude.{recipe_parameter_view}
use Rattle.just_run.specs.Arguments.{grouped}
use Rattle.just_run.proofs.arguments.grouped.Given as goal

-- the arguments so far, and those of the rest, are all
abbrev pub invariant-loop-parameter : goal.invariant-loop-parameter
invariant-loop-parameter g l =
    l.arguments.items ++ grouped (map recipe_parameter_view (drop l.parameter-index l.parameters)) (map g.T.AsStr.text l.rest)
    ≡ grouped (map recipe_parameter_view l.parameters) (map g.T.AsStr.text l.words)
