use Rattle.std.proofs.Common.{◌≡◌, ◌+◌, ◌≤◌, drop, map}
use Rattle.just_syntax.specs.Prelude.{recipe_parameter_view}
use Rattle.just_run.specs.Arguments.{fewest}
use Rattle.just_run.proofs.arguments.fewest.Given as goal

-- those so far, and those of the rest, are all
abbrev pub invariant-loop-parameter : goal.invariant-loop-parameter
invariant-loop-parameter l = record {
  bound : l.fewest ≤ l.parameter-index;
  so_far : l.fewest + fewest (map recipe_parameter_view (drop l.parameter-index l.parameters)) ≡ fewest (map recipe_parameter_view l.parameters);
}
