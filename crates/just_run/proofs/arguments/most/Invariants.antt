use Rattle.std.proofs.Common.{◌≡◌, ◌+◌, drop, map, option_map}
use Rattle.just_syntax.specs.Prelude.{recipe_parameter_view}
use Rattle.just_run.specs.Arguments.{most}
use Rattle.just_run.proofs.arguments.most.Given as goal

-- the parameters so far take a word each
abbrev pub invariant-loop-parameter : goal.invariant-loop-parameter
invariant-loop-parameter l = most (map recipe_parameter_view l.parameters)
    ≡ option_map (λ n. l.parameter-index + n) (most (map recipe_parameter_view (drop l.parameter-index l.parameters)))
