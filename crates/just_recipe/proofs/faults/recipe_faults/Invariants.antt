use Rattle.std.proofs.Common.{◌≡◌, map, take}
use Rattle.std.specs.List.{flat_map}
use Rattle.just_recipe.specs.Expressions.{part_view}
use Rattle.just_recipe.specs.Faults.{expression_faults}
use Rattle.just_resolution.specs.Prelude.{module_fault_view}
use Rattle.just_syntax.specs.View.{function_view}
use Rattle.just_recipe.proofs.faults.recipe_faults.Given as goal

-- the faults of the expressions so far were added
abbrev pub invariant-loop-part : goal.invariant-loop-part
invariant-loop-part l = map module_fault_view l.faults.items
    ≡ flat_map (expression_faults (map function_view l.functions)) (map part_view (take l.part-index l.part-items))
