use Rattle.std.proofs.Common.{◌≡◌, ◌++◌, map, take}
use Rattle.just_resolution.specs.Prelude.{parameter_view, recipe_parameter_view}
use Rattle.just_resolution.proofs.numbers.add_recipe_numbers.Given as goal

-- the parameters so far were added
abbrev pub invariant-loop-parameter : goal.invariant-loop-parameter
invariant-loop-parameter l = map parameter_view l.numbers.items
    ≡ map parameter_view l.fn.numbers.items ++ map (λ p. (p.name, p.number)) (map recipe_parameter_view (take l.parameter-index l.parameters))
