use Rattle.std.proofs.Common.{map, ◌-◌}
use Rattle.just_syntax.specs.View.{recipe_parameter_view}
use Rattle.just_syntax.specs.declared.parameter_kind.ParameterKind.TheVariants.{Singular}
use Rattle.just_parser.proofs.Repeated.{RepeatsAlike}
use Rattle.just_parser.specs.Parsed.{unread}
use Rattle.just_parser.specs.Recipes.{is_after_parameters, recipe_parameter}
use Rattle.just_parser.proofs.parser.Parser.singular_parameters.Given as goal

-- what is left gives the rest
abbrev pub invariant-loop : goal.invariant-loop
invariant-loop l =
    RepeatsAlike is_after_parameters (recipe_parameter Singular) (map recipe_parameter_view l.into.items) (map recipe_parameter_view l.fn.into.items)
    (l.end - l.counter)
    (unread l.self) (unread l.fn.self)
