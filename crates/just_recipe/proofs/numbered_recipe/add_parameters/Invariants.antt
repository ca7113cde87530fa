use Rattle.std.proofs.Common.{map}
use Rattle.std.specs.Iterator.Adapters.{zip_first, zip_second}
use Rattle.std.specs.Slice.Iter.{iter_rest}
use Rattle.just_resolve.specs.Prelude.{parameter_named, parameter_view, variable_named}
use Rattle.just_syntax.specs.View.{recipe_parameter_view}
use Rattle.just_recipe.proofs.Numbered.{AreNumbered}
use Rattle.just_recipe.proofs.numbered_recipe.add_parameters.Given as goal

-- the copies and the names so far, and the parameters that are left
abbrev pub invariant-loop-parameter : goal.invariant-loop-parameter
invariant-loop-parameter l = AreNumbered (variable_named l.fn.names) (map recipe_parameter_view l.parameters) (map parameter_view l.numbers)
    (map recipe_parameter_view l.copies.items) (parameter_named l.names) (variable_named l.names)
    (map recipe_parameter_view (iter_rest (zip_first l.parameter-iterator))) (map parameter_view (iter_rest (zip_second l.parameter-iterator)))
