-- Items of a justfile.
use Rattle.std.specs.Prelude.{Bool, List, Option}
use Rattle.just_syntax.specs.Plain.{Assignment, Attribute, Expr, Fragment, Function, Literal, Parameter, Recipe, Set}
use Rattle.just_syntax.specs.Plain.{Token}

-- an option of `arg` that evaluation needs
pub data ArgOption : Type 0 where
  Flag : ArgOption
  Multiple : ArgOption
  Value : Expr → ArgOption

-- what an attribute `arg` says of the parameter with this name
pub record ArgAttribute : Type 0 where
  pub name : Token
  pub options : List ArgOption
  pub parameter : Literal

-- an attribute as it is written, with what it says of a parameter
pub record WrittenAttribute : Type 0 where
  pub arg : Option ArgAttribute
  pub attribute : Attribute
  pub name : Token

-- a recipe that another one depends on, with its arguments
pub record Dependency : Type 0 where
  pub arguments : List Expr
  pub recipe : Token

-- a line of a recipe, by its fragments
abbrev pub Line : Type 0
Line = List Fragment

-- a recipe, and what is run before and after it
pub record RecipeDefinition : Type 0 where
  pub args : List ArgAttribute
  pub body : List Line
  pub dependencies : List Dependency
  pub parameters : List Parameter
  pub quiet : Bool
  pub recipe : Recipe
  pub subsequents : List Dependency

pub data Item : Type 0 where
  -- `alias NAME := TARGET`
  Alias : Token → Token → Item
  Assigns : Assignment → Item
  Defines : Function → Item
  Recipes : RecipeDefinition → Item
  Sets : Set → Item
  -- `unexport NAME`
  Unexports : Token → Item
