-- The situations of a recipe's expressions, and when what they reach is resolved.
use Rattle.std.specs.Prelude.{◌⊎◌, ℕ, Bool, List, [], ◌∷◌, ◌++◌, map, Option, Some, option_to_list}
use Rattle.std.specs.List.{AllByRecursion, flat_map}
use Rattle.just_syntax.specs.Plain.{Text, Token, Assignment, Attribute, Env, Expr, Function, Other, Parameter}
use Rattle.just_syntax.specs.Lists.{IsIn}
use Rattle.just_value.specs.Value.{Names}
use Rattle.just_value.specs.Frames.{Frames, value_in}
use Rattle.just_meaning.specs.Closings.{lexical}
use Rattle.just_meaning.specs.Meaning.{Program, Situation, eval}
use Rattle.just_meaning.specs.Parameters.{Meanings}
use Rattle.just_syntax.specs.Occurrences.{VariableOf}
use Rattle.just_meaning.specs.Reaches.{ReadsBeyond, Occurs}
use Rattle.just_meaning.specs.Resolved.{AllKnown, AreDistinct, HasValue, parameter_numbers}

-- the program, how many calls may be pending, and the situation
pub record Here : Type 0 where
  pub program : Program
  pub calls : ℕ
  pub situation : Situation

-- What is evaluated for a recipe: expressions read these frames, and a called body's frame is put on those of the
-- module.
abbrev pub in_recipe : Program → ℕ → Frames → List (Text × Text) → Bool → Option Text → Frames → Here
in_recipe program calls base environment is_dependency recipe frames = record {
  program = program;
  calls = calls;
  situation = record {
    names = value_in frames;
    environment = environment;
    recipe = recipe;
    is_dependency = is_dependency;
    lists = program.fixed.settings.lists;
    shown = frames;
    below = base;
  };
}

-- what expressions mean under lexical scope: a called body reads its own parameters and the frames that its own is put
-- on
abbrev pub meanings : Here → Meanings
meanings h s e = eval h.program (lexical h.program (value_in h.situation.below) h.calls) s e

-- ---- resolved

abbrev pub attribute_expressions : List (Attribute × Token) → List Expr
attribute_expressions [] = []
attribute_expressions ((Env key value, name) ∷ left) = key ∷ value ∷ attribute_expressions left
attribute_expressions ((Other, name) ∷ left) = attribute_expressions left

-- the default and the value of a parameter
abbrev pub expressions_of : Parameter → List Expr
expressions_of p = option_to_list p.default ++ option_to_list p.value

abbrev pub parameter_expressions : List Parameter → List Expr
parameter_expressions ps = flat_map expressions_of ps

-- By itself an expression reads only what is readable. Through functions it reads only what has a value in the base.
pub record IsReadable (functions : List Function) (base : Names) (readable : ℕ → Type 0) (e : Expr) : Type 0 where
  pub own : (n : ℕ) → Occurs e (VariableOf (Some n)) → readable n
  pub beyond : (n : ℕ) → ReadsBeyond functions e n → HasValue base n

abbrev pub AllReadable : List Function → Names → (ℕ → Type 0) → List Expr → Type 0
AllReadable functions base readable es = AllByRecursion (IsReadable functions base readable) es

-- what a parameter's expressions read by themselves has a value among these names, or is an earlier parameter
abbrev pub AreReadableInTurn : List Function → Names → Names → List ℕ → List Parameter → Type 0
AreReadableInTurn functions base names earlier [] = Unit {0}
AreReadableInTurn functions base names earlier (p ∷ ps) =
    AllReadable functions base (λ n. IsIn earlier n ⊎ HasValue names n) (expressions_of p)
    × AreReadableInTurn functions base names (p.number ∷ earlier) ps

-- The numbers of assignments and of all parameters are distinct, no parameter is bound outside, every variable has a
-- number, and every call has as many arguments as its name takes. What attributes and expressions read is bound in
-- these frames, what a parameter's default and value read is bound there or among the earlier parameters, and what a
-- body reads beyond its own parameters is bound in the base.
pub record IsResolvedHere (functions : List Function) (assignments : List Assignment) (base frames : Frames)
    (attributes : List (Attribute × Token)) (parameters : List Parameter) (expressions : List Expr) : Type 0 where
  pub distinct : AreDistinct (map (λ a. a.number) assignments ++ parameter_numbers functions
      ++ map (λ p. p.number) parameters)
  pub unbound : (n : ℕ) → IsIn (parameter_numbers functions ++ map (λ p. p.number) parameters) n
      → HasValue (value_in frames) n ⊎ HasValue (value_in base) n → ⊥
  pub known : AllKnown functions (attribute_expressions attributes ++ parameter_expressions parameters ++ expressions)
  pub bodies : AllKnown functions (map (λ f. f.body) functions)
  pub readable : AllReadable functions (value_in base) (HasValue (value_in frames))
      (attribute_expressions attributes ++ expressions)
  pub in_turn : AreReadableInTurn functions (value_in base) (value_in frames) [] parameters
