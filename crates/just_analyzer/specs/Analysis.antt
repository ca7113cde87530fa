-- The parts that items make up.
use Rattle.std.specs.Prelude.{Bool, false, ◌&&◌, ◌||◌, not, List, [], ◌∷◌, ◌++◌, if◌then◌else◌}
use Rattle.std.specs.List.{list_any}
use Rattle.std.specs.Option.{is_some}
use Rattle.just_syntax.specs.Keyed.{value_at, with_value}
use Rattle.just_syntax.specs.Plain.{AllowDuplicateRecipes, AllowDuplicateVariables, Assignment, Function, Set}
use Rattle.just_syntax.specs.Plain.{Setting, Text, Token}
use Rattle.just_host.specs.Justfile.{Justfile, empty_root, with_assignment, with_function}
use Rattle.just_parser.specs.Plain as items
use Rattle.just_parser.specs.Plain.{Item, RecipeDefinition}
use Rattle.just_analyzer.specs.Outcome.{Analyzed, Faulty, Grown, after_analyzed}
use Rattle.just_analyzer.specs.Parameters.{configured}
use Rattle.just_analyzer.specs.declared.analysis_error.Fault.TheVariants.{DuplicateFunction, DuplicateRecipe}
use Rattle.just_analyzer.specs.declared.analysis_error.Fault.TheVariants.{DuplicateSet}
use Rattle.just_analyzer.specs.declared.analysis_error.Fault.TheVariants.{DuplicateVariable}

-- another name of a recipe
pub record Alias : Type 0 where
  pub name : Token
  pub target : Token

-- the parts of a justfile, each list by its names
pub record Analysis : Type 0 where
  pub aliases : List Alias
  pub justfile : Justfile
  pub recipes : List RecipeDefinition
  pub sets : List Set

-- no parts, of a file that works in a directory
abbrev pub empty : Text → Text → Analysis
empty source directory = record { aliases = []; justfile = empty_root source directory; recipes = []; sets = [] }

-- ---- what may be there twice

-- an item sets this
abbrev pub sets_this : (Setting → Bool) → Item → Bool
sets_this test (items.Sets s) = test s.value
sets_this test _ = false

abbrev pub allows_recipes : Setting → Bool
allows_recipes (AllowDuplicateRecipes on) = on
allows_recipes _ = false

abbrev pub allows_variables : Setting → Bool
allows_variables (AllowDuplicateVariables on) = on
allows_variables _ = false

-- whether recipes, and whether variables, may have one name: the last one counts
pub record Allowed : Type 0 where
  pub recipes : Bool
  pub variables : Bool

-- some item allows it
abbrev pub allowed_by : List Item → Allowed
allowed_by all =
    record { recipes = list_any (sets_this allows_recipes) all; variables = list_any (sets_this allows_variables) all }

-- ---- one item more

-- something of a name is there
abbrev pub has_named : {A : Type 0} → (A → Text) → List A → Token → Bool
has_named key all name = is_some (value_at key name.lexeme all)

abbrev pub has_alias : Analysis → Token → Bool
has_alias a = has_named (λ alias. alias.name.lexeme) a.aliases

abbrev pub has_function : Analysis → Token → Bool
has_function a = has_named (λ f. f.name.lexeme) a.justfile.functions

abbrev pub has_recipe : Analysis → Token → Bool
has_recipe a = has_named (λ r. r.recipe.name.lexeme) a.recipes

abbrev pub has_set : Analysis → Token → Bool
has_set a = has_named (λ s. s.name.lexeme) a.sets

abbrev pub has_variable : Analysis → Token → Bool
has_variable a = has_named (λ s. s.name.lexeme) a.justfile.assignments

-- an alias has a name of its own
unfoldable pub with_alias : Analysis → Alias → Analyzed Analysis
with_alias a alias =
    if has_alias a alias.name || has_recipe a alias.name then Faulty DuplicateRecipe alias.name else
    Grown (record a { aliases = with_value (λ other. other.name.lexeme) a.aliases alias })

-- a variable replaces one with its name, if it may
unfoldable pub with_assigned_variable : Bool → Analysis → Assignment → Analyzed Analysis
with_assigned_variable may_replace a s =
    if not may_replace && has_variable a s.name then Faulty DuplicateVariable s.name else
    Grown (record a { justfile = with_assignment a.justfile s })

-- a function has a name of its own
unfoldable pub with_definition : Analysis → Function → Analyzed Analysis
with_definition a f =
    if has_function a f.name then Faulty DuplicateFunction f.name else
    Grown (record a { justfile = with_function a.justfile f })

-- the parts and a recipe, which replaces one with its name
abbrev pub and_recipe : Analysis → RecipeDefinition → Analyzed Analysis
and_recipe a r = Grown (record a { recipes = with_value (λ other. other.recipe.name.lexeme) a.recipes r })

-- a recipe replaces one with its name, if it may
unfoldable pub with_recipe : Bool → Analysis → RecipeDefinition → Analyzed Analysis
with_recipe may_replace a r =
    if has_alias a r.recipe.name || (not may_replace && has_recipe a r.recipe.name)
    then Faulty DuplicateRecipe r.recipe.name
    else after_analyzed (configured r) (and_recipe a)

-- a setting is set once
unfoldable pub with_set : Analysis → Set → Analyzed Analysis
with_set a s =
    if has_set a s.name then Faulty DuplicateSet s.name else
    Grown (record a { sets = with_value (λ t. t.name.lexeme) a.sets s })

-- a variable that is not passed on
unfoldable pub with_unexport : Analysis → Token → Analyzed Analysis
with_unexport a name =
    Grown (record a { justfile = record a.justfile { unexports = a.justfile.unexports ++ name.lexeme ∷ [] } })

-- the parts with an item
abbrev pub added : Allowed → Analysis → Item → Analyzed Analysis
added allowed a (items.Alias name target) = with_alias a (record { name = name; target = target })
added allowed a (items.Assigns s) = with_assigned_variable allowed.variables a s
added allowed a (items.Defines f) = with_definition a f
added allowed a (items.Recipes r) = with_recipe allowed.recipes a r
added allowed a (items.Sets s) = with_set a s
added allowed a (items.Unexports name) = with_unexport a name

-- the parts with these items, one after another
abbrev pub with_items : Allowed → Analysis → List Item → Analyzed Analysis
with_items allowed a [] = Grown a
with_items allowed a (item ∷ rest) = after_analyzed (added allowed a item) (λ b. with_items allowed b rest)

-- the parts that the items of a file make up
abbrev pub analyzed : Text → Text → List Item → Analyzed Analysis
analyzed source directory all = with_items (allowed_by all) (empty source directory) all
