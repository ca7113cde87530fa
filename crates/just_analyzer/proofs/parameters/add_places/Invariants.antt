use Rattle.std.proofs.Common.{List, [], drop, map, take, ℕ, ◌≡◌}
use Rattle.just_syntax.specs.View.{recipe_parameter_view}
use Rattle.just_analyzer.specs.Parameters.{duplicate, parameter_place}
use Rattle.just_analyzer.specs.View.{place_in}
use Rattle.just_analyzer.proofs.parameters.add_places.Given as goal

-- the parameters so far are at their places, and a name that is there twice is among the others
abbrev pub invariant-loop-index : goal.invariant-loop-index
invariant-loop-index l =
    let before = map recipe_parameter_view (take l.index l.parameters) in
    ((t : List ℕ) → place_in l.places t ≡ parameter_place t before)
    × (duplicate before (map recipe_parameter_view (drop l.index l.parameters)) ≡ duplicate [] (map recipe_parameter_view l.parameters))
