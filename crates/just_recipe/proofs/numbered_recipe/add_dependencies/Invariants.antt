use Rattle.std.proofs.Common.{◌≡◌, ◌++◌, map, take}
use Rattle.just_recipe.specs.Numbered.{numbered_dependency}
use Rattle.just_parser.specs.View.{dependency_view}
use Rattle.just_resolve.specs.Prelude.{name_number}
use Rattle.just_recipe.proofs.numbered_recipe.add_dependencies.Given as goal

-- copies of the dependencies so far were added
abbrev pub invariant-loop-dependency : goal.invariant-loop-dependency
invariant-loop-dependency l = map dependency_view l.copies.items ≡ map dependency_view l.initial.copies.items
    ++ map (numbered_dependency (name_number l.names)) (map dependency_view (take l.dependency-index l.dependencies))
