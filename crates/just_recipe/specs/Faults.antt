-- Names in recipes that mean nothing.
use Rattle.std.specs.Prelude.{List}
use Rattle.std.specs.List.{flat_map}
use Rattle.std.specs.Option.{option_to_list}
use Rattle.just_syntax.specs.Plain.{Expr, Function}
use Rattle.just_resolution.specs.Fault.{ModuleFault, occurrence_fault}
use Rattle.just_syntax.specs.Occurrences.{occurrences_in}
use Rattle.just_recipe.specs.Expressions.{recipe_expressions}
use Rattle.just_recipe.specs.Numbered.{Numbered}

-- the faults of the variables and calls in an expression, in the order of its text
abbrev pub expression_faults : List Function → Expr → List ModuleFault
expression_faults functions e =
    flat_map (λ o. option_to_list (occurrence_fault functions o)) (occurrences_in e)

abbrev pub recipe_faults : List Function → Numbered → List ModuleFault
recipe_faults functions r = flat_map (expression_faults functions) (recipe_expressions r)
