use Rattle.std.proofs.Common.{◌≡◌, map, take}
use Rattle.just_resolve.specs.Prelude.{name_view}
use Rattle.just_recipe.proofs.numbering.parameter_names.Given as goal

-- the names of the parameters so far were added
abbrev pub invariant-loop-parameter : goal.invariant-loop-parameter
invariant-loop-parameter l = map name_view l.names.items ≡ map (λ p. name_view p.name) (take l.parameter-index l.parameters)
