-- Recipes whose variables have the numbers of their names.
use Rattle.std.specs.Prelude.{◌≡◌, ℕ, List, [], ◌∷◌, ◌++◌, Option, map, option_map}
use Rattle.std.specs.Option.{option_or}
use Rattle.just_syntax.specs.Plain.{Assignment, Attribute, Env, Fragment, Function, Interpolation, Other}
use Rattle.just_syntax.specs.Plain.{Parameter, Recipe, Text, TextFragment, Token}
use Rattle.just_syntax.specs.View.{line_view, recipe_parameter_view, recipe_view}
use Rattle.just_value.specs.Frames.{Frames}
use Rattle.just_parser.specs.Plain.{Dependency, Line, RecipeDefinition}
use Rattle.just_parser.specs.View.{dependency_view}
use Rattle.just_resolve.specs.Free.{AreFree, AreNew, numbers_of}
use Rattle.just_resolve.specs.Numbered.{first_named, numbered_expression, visible}
use Rattle.just_recipe.specs.declared.numbered_recipe.NumberedRecipe.{NumberedRecipe}

abbrev pub numbered_attribute : (Text → Option ℕ) → Attribute → Attribute
numbered_attribute names (Env key value) = Env (numbered_expression names key) (numbered_expression names value)
numbered_attribute names Other = Other

abbrev pub numbered_attributes : (Text → Option ℕ) → List (Attribute × Token) → List (Attribute × Token)
numbered_attributes names attributes = map (λ a. (numbered_attribute names a.0, a.1)) attributes

abbrev pub numbered_fragment : (Text → Option ℕ) → Fragment → Fragment
numbered_fragment names (TextFragment text) = TextFragment text
numbered_fragment names (Interpolation e) = Interpolation (numbered_expression names e)

abbrev pub numbered_line : (Text → Option ℕ) → Line → Line
numbered_line names line = map (numbered_fragment names) line

abbrev pub numbered_dependency : (Text → Option ℕ) → Dependency → Dependency
numbered_dependency names d = record d { arguments = map (numbered_expression names) d.arguments }

-- the number of a parameter, the first with the name, or else the number that the name has outside
abbrev pub number_with_parameters : List (Token × ℕ) → (Text → Option ℕ) → Text → Option ℕ
number_with_parameters parameters names name = option_or (first_named parameters name) (names name)

-- a parameter with this number
abbrev pub numbered_parameter : (Text → Option ℕ) → Parameter → ℕ → Parameter
numbered_parameter names p n = record p {
  default = option_map (numbered_expression names) p.default;
  number = n;
  value = option_map (numbered_expression names) p.value;
}

-- Parameters with the numbers of these pairs. The expressions of each can read those before it.
abbrev pub numbered_in_turn : (Text → Option ℕ) → List (Token × ℕ) → List Parameter → List (Token × ℕ) → List Parameter
numbered_in_turn names before (p ∷ ps) (q ∷ qs) =
    numbered_parameter (number_with_parameters before names) p q.1 ∷ numbered_in_turn names (before ++ q ∷ []) ps qs
numbered_in_turn names before _ _ = []

-- a recipe whose variables have numbers, as plain data
pub record Numbered : Type 0 where
  pub body : List Line
  pub dependencies : List Dependency
  pub parameters : List Parameter
  pub recipe : Recipe
  pub subsequents : List Dependency

abbrev pub numbered_recipe_view : NumberedRecipe → Numbered
numbered_recipe_view r = record {
  body = map line_view r.body.items;
  dependencies = map dependency_view r.dependencies.items;
  parameters = map recipe_parameter_view r.parameters.items;
  recipe = recipe_view r.recipe;
  subsequents = map dependency_view r.subsequents.items;
}

-- A recipe with these parameters, where each other name has the number that it has outside. Attributes can read what is
-- outside, a parameter also those before it, and lines and dependencies all parameters.
abbrev pub numbered_recipe : (Text → Option ℕ) → List (Token × ℕ) → RecipeDefinition → Numbered
numbered_recipe outside parameters definition = let names = number_with_parameters parameters outside in record {
  body = map (numbered_line names) definition.body;
  dependencies = map (numbered_dependency names) definition.dependencies;
  parameters = numbered_in_turn outside [] definition.parameters parameters;
  recipe = record {
    attributes = numbered_attributes outside definition.recipe.attributes;
    name = definition.recipe.name;
  };
  subsequents = map (numbered_dependency names) definition.subsequents;
}

-- The copy is the recipe with the numbers of names. Its parameters have the first numbers from `start` on that no frame
-- binds.
pub record IsCopyFrom (outside : Text → Option ℕ) (outer : Frames) (start : ℕ) (definition : RecipeDefinition)
    (copy : Numbered) : Type 0 where
  pub parameters : List (Token × ℕ)
  pub named : map (λ p. p.0) parameters ≡ map (λ p. p.name) definition.parameters
  pub free : AreFree outer start (map (λ p. p.1) parameters)
  pub same : copy ≡ numbered_recipe outside parameters definition

-- The copy is the recipe with the numbers of names in a module. Its parameters have numbers that nothing else has.
pub record IsNumberedCopy (functions : List Function) (assignments : List Assignment) (outer : Frames)
    (definition : RecipeDefinition) (copy : Numbered) : Type 0 where
  pub parameters : List (Token × ℕ)
  pub named : map (λ p. p.0) parameters ≡ map (λ p. p.name) definition.parameters
  pub new : AreNew (numbers_of functions assignments) outer (map (λ p. p.1) parameters)
  pub same : copy ≡ numbered_recipe (first_named (visible assignments outer)) parameters definition
