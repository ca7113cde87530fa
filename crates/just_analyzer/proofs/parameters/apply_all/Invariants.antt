use Rattle.std.proofs.Common.{List, length, map, reverse, ℕ, ◌≡◌}
use Rattle.just_syntax.specs.View.{recipe_parameter_view}
use Rattle.just_parser.specs.View.{arg_view}
use Rattle.just_analyzer.specs.Parameters.{parameter_place, with_args}
use Rattle.just_analyzer.specs.View.{place_in}
use Rattle.just_analyzer.proofs.parameters.apply_all.Given as goal

-- the attributes that are left, the last first, give the rest; the names are at their places
abbrev pub invariant-loop-arg : goal.invariant-loop-arg
invariant-loop-arg l =
    (with_args (map arg_view (reverse l.args.items)) (map recipe_parameter_view l.parameters.items)
    ≡ with_args (map arg_view l.fn.args.items) (map recipe_parameter_view l.fn.parameters.items))
    × ((t : List ℕ) → place_in l.places t ≡ parameter_place t (map recipe_parameter_view l.parameters.items))

abbrev pub decreases-loop-arg : goal.decreases-loop-arg
decreases-loop-arg l = length l.args.items
