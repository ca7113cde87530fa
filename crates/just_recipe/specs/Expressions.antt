-- The expressions of recipes.
use Rattle.std.specs.Prelude.{List, ◌++◌}
use Rattle.std.specs.List.{flat_map}
use Rattle.just_syntax.specs.Plain.{Expr}
use Rattle.just_syntax.specs.View.{view}
use Rattle.just_meaning.specs.Here.{attribute_expressions, parameter_expressions}
use Rattle.just_meaning.specs.Line.{line_expressions}
use Rattle.just_parser.specs.Plain.{Dependency, Line}
use Rattle.just_recipe.specs.Numbered.{Numbered}
use Rattle.just_recipe.specs.declared.expressions.Part.{Part}

abbrev pub part_view : Part → Expr
part_view part = view part.expression.now

-- the arguments of dependencies
abbrev pub dependency_expressions : List Dependency → List Expr
dependency_expressions dependencies = flat_map (λ d. d.arguments) dependencies

-- the interpolations of lines
abbrev pub body_expressions : List Line → List Expr
body_expressions lines = flat_map line_expressions lines

-- those of attributes, parameters, dependencies, lines, and dependencies after the recipe
abbrev pub recipe_expressions : Numbered → List Expr
recipe_expressions r = attribute_expressions r.recipe.attributes ++ (parameter_expressions r.parameters
    ++ (dependency_expressions r.dependencies ++ (body_expressions r.body ++ dependency_expressions r.subsequents)))
