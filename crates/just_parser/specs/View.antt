-- The plain items of the declared types.
use Rattle.std.specs.Prelude.{map, option_map}
use Rattle.just_syntax.specs.View.{assignment_view, attribute_view, function_view, line_view, literal_view, name_view}
use Rattle.just_syntax.specs.View.{recipe_parameter_view}
use Rattle.just_syntax.specs.View.{recipe_view}
use Rattle.just_syntax.specs.View.{set_view, view}
use Rattle.just_parser.specs.Plain as plain
use Rattle.just_parser.specs.declared.arg_attribute.ArgAttribute.{ArgAttribute}
use Rattle.just_parser.specs.declared.arg_attribute.ArgOption.{ArgOption}
use Rattle.just_parser.specs.declared.arg_attribute.ArgOption.TheVariants as options
use Rattle.just_parser.specs.declared.dependency.Dependency.{Dependency}
use Rattle.just_parser.specs.declared.item.Item.{Item}
use Rattle.just_parser.specs.declared.item.Item.TheVariants as items
use Rattle.just_parser.specs.declared.recipe_definition.RecipeDefinition.{RecipeDefinition}
use Rattle.just_parser.specs.declared.written_attribute.WrittenAttribute.{WrittenAttribute}

abbrev pub arg_option_view : ArgOption → plain.ArgOption
arg_option_view options.Flag = plain.Flag
arg_option_view options.Multiple = plain.Multiple
arg_option_view (options.Value e) = plain.Value (view e)

abbrev pub arg_view : ArgAttribute → plain.ArgAttribute
arg_view a = record {
  name = name_view a.name;
  options = map arg_option_view a.options.items;
  parameter = literal_view a.parameter;
}

abbrev pub written_view : WrittenAttribute → plain.WrittenAttribute
written_view w = record {
  arg = option_map arg_view w.arg;
  attribute = attribute_view w.attribute;
  name = name_view w.name;
}

abbrev pub dependency_view : Dependency → plain.Dependency
dependency_view d = record { arguments = map view d.arguments.items; recipe = name_view d.recipe }

abbrev pub recipe_definition_view : RecipeDefinition → plain.RecipeDefinition
recipe_definition_view r = record {
  args = map arg_view r.args.items;
  body = map line_view r.body.items;
  dependencies = map dependency_view r.dependencies.items;
  parameters = map recipe_parameter_view r.parameters.items;
  quiet = r.quiet;
  recipe = recipe_view r.recipe;
  subsequents = map dependency_view r.subsequents.items;
}

abbrev pub item_view : Item → plain.Item
item_view (items.Alias name target) = plain.Alias (name_view name) (name_view target)
item_view (items.Assignment assignment) = plain.Assigns (assignment_view assignment)
item_view (items.Function function) = plain.Defines (function_view function)
item_view (items.Recipe recipe) = plain.Recipes (recipe_definition_view recipe)
item_view (items.Set set) = plain.Sets (set_view set)
item_view (items.Unexport name) = plain.Unexports (name_view name)
