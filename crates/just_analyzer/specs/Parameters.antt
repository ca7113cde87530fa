-- The parameters of a recipe, and what attributes say of them.
use Rattle.std.specs.Prelude.{ℕ, zero, suc, Bool, true, List, [], ◌∷◌, ◌++◌, Option, Some, None, bytes_eq}
use Rattle.std.specs.List.{position_from}
use Rattle.std.specs.Option.{option_or}
use Rattle.just_syntax.specs.Plain.{Parameter, Text, Token}
use Rattle.just_parser.specs.Plain.{ArgAttribute, ArgOption, Flag, Multiple, RecipeDefinition, Value}
use Rattle.just_analyzer.specs.Outcome.{Analyzed, Faulty, Grown, after_analyzed}
use Rattle.just_analyzer.specs.declared.analysis_error.Fault.TheVariants.{DuplicateParameter, UndefinedParameter}

-- a parameter has this name
abbrev pub is_named : Text → Parameter → Bool
is_named name p = bytes_eq name p.name.lexeme

-- the place of the first parameter of a name
abbrev pub parameter_place : Text → List Parameter → Option ℕ
parameter_place name ps = position_from (is_named name) 0 ps

-- this name, if it is at a place already
abbrev pub repeated_name : Option ℕ → Token → Option Token
repeated_name None name = None
repeated_name (Some i) name = Some name

-- after these parameters: the name of the first one that has the name of one before it
abbrev pub duplicate : List Parameter → List Parameter → Option Token
duplicate before [] = None
duplicate before (p ∷ ps) =
    option_or (repeated_name (parameter_place p.name.lexeme before) p.name) (duplicate (before ++ p ∷ []) ps)

-- no name is there twice
abbrev pub distinct : Option Token → Analyzed Unit
distinct None = Grown tt
distinct (Some name) = Faulty DuplicateParameter name

-- ---- what attributes say

-- a parameter with an option
abbrev pub with_option : Parameter → ArgOption → Parameter
with_option p Flag = record p { flag = true }
with_option p Multiple = record p { multiple = true }
with_option p (Value e) = record p { value = Some e }

-- a parameter with options; of two values the last one counts
abbrev pub with_options : Parameter → List ArgOption → Parameter
with_options p [] = p
with_options p (o ∷ os) = with_options (with_option p o) os

-- the parameters with these options of the one at a place
abbrev pub with_options_at : ℕ → List ArgOption → List Parameter → List Parameter
with_options_at i os [] = []
with_options_at zero os (p ∷ ps) = with_options p os ∷ ps
with_options_at (suc i) os (p ∷ ps) = p ∷ with_options_at i os ps

-- the parameters with what an attribute says of the one at this place
abbrev pub at_place : ArgAttribute → List Parameter → Option ℕ → Analyzed (List Parameter)
at_place a ps None = Faulty UndefinedParameter a.name
at_place a ps (Some i) = Grown (with_options_at i a.options ps)

-- the parameters with what attributes say of them
abbrev pub with_args : List ArgAttribute → List Parameter → Analyzed (List Parameter)
with_args [] ps = Grown ps
with_args (a ∷ rest) ps = after_analyzed (at_place a ps (parameter_place a.parameter.cooked ps)) (with_args rest)

-- a recipe with these parameters
abbrev pub recipe_with_parameters : RecipeDefinition → List Parameter → RecipeDefinition
recipe_with_parameters r ps = record r { args = []; parameters = ps }

-- a recipe whose parameters are what its attributes say, if their names differ
unfoldable pub configured : RecipeDefinition → Analyzed RecipeDefinition
configured r = after_analyzed (distinct (duplicate [] r.parameters))
    (λ (all : Unit). after_analyzed (with_args r.args r.parameters) (λ ps. Grown (recipe_with_parameters r ps)))
