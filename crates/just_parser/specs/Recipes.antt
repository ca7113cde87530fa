-- The recipes of a justfile: which tokens are which recipe, a rule a part.
use Rattle.std.specs.Prelude.{Bool, false, not, ◌||◌, List, [], ◌∷◌, ◌++◌, Option, Some, None, if◌then◌else◌}
use Rattle.just_syntax.specs.Plain.{Expr, Fragment, Interpolation, Parameter, TextFragment, Token}
use Rattle.just_syntax.specs.declared.parameter_kind.ParameterKind.{ParameterKind}
use Rattle.just_syntax.specs.declared.parameter_kind.ParameterKind.TheVariants.{Plus, Singular, Star}
use Rattle.just_lexer.specs.declared.kind.TokenKind.TheVariants as kinds
use Rattle.just_expression_parser.specs.Tokens.{Tokens, is_at}
use Rattle.just_parser.specs.Phrase.{Phrase, Read, ◌>>=◌, ◌>>◌, accepted, after_read, expression, give, line_end, many}
use Rattle.just_parser.specs.Phrase.{one}
use Rattle.just_parser.specs.Attributes.{args_of, recipe_attributes}
use Rattle.just_parser.specs.Phrase.{value}
use Rattle.just_parser.specs.Plain.{Dependency, Line, RecipeDefinition, WrittenAttribute}

-- ---- parameters

-- `=` and a value, if it is there
unfoldable pub default : Phrase (Option Expr)
default ts =
    if is_at 0 kinds.Equals ts
    then after_read (after_read (one kinds.Equals ts) (λ mark. value)) (λ e. give (Some e))
    else Read None ts

-- a parameter of a kind; `$` exports it
unfoldable pub recipe_parameter : ParameterKind → Phrase (List Parameter)
recipe_parameter kind = do
  export ← accepted kinds.Dollar
  name ← one kinds.Identifier
  value ← default
  give (record {
    default = value;
    export = export;
    flag = false;
    kind = kind;
    multiple = false;
    name = name;
    number = 0;
    value = None;
  } ∷ [])

-- no parameter begins that takes one argument
abbrev pub is_after_parameters : Tokens → Bool
is_after_parameters ts = not (is_at 0 kinds.Identifier ts || is_at 0 kinds.Dollar ts)

-- the last parameter, if it takes more than one argument
unfoldable pub variadic : Phrase (List Parameter)
variadic ts =
    if is_at 0 kinds.Plus ts then after_read (one kinds.Plus ts) (λ mark. recipe_parameter Plus) else
    if is_at 0 kinds.Asterisk ts then after_read (one kinds.Asterisk ts) (λ mark. recipe_parameter Star) else
    Read [] ts

unfoldable pub recipe_parameters : Phrase (List Parameter)
recipe_parameters = do
  singular ← many is_after_parameters (recipe_parameter Singular)
  last ← variadic
  give (singular ++ last)

-- ---- dependencies

unfoldable pub dependency_argument : Phrase (List Expr)
dependency_argument = do
  e ← expression
  give (e ∷ [])

-- the arguments of a dependency, and a parenthesis
unfoldable pub dependency_arguments : Phrase (List Expr)
dependency_arguments = do
  es ← many (is_at 0 kinds.ParenR) dependency_argument
  one kinds.ParenR
  give es

-- `(NAME argument ..)`
unfoldable pub call : Phrase (List Dependency)
call = do
  one kinds.ParenL
  name ← one kinds.Identifier
  es ← dependency_arguments
  give (record { arguments = es; recipe = name } ∷ [])

-- a name without arguments, or a call
unfoldable pub dependency : Phrase (List Dependency)
dependency ts =
    if is_at 0 kinds.ParenL ts then call ts else
    after_read (one kinds.Identifier ts) (λ name. give (record { arguments = []; recipe = name } ∷ []))

-- no dependency begins
abbrev pub is_after_dependencies : Tokens → Bool
is_after_dependencies ts = not (is_at 0 kinds.Identifier ts || is_at 0 kinds.ParenL ts)

abbrev pub dependencies : Phrase (List Dependency)
dependencies = many is_after_dependencies dependency

-- `&&` and at least one dependency, if it is there
unfoldable pub subsequents : Phrase (List Dependency)
subsequents ts =
    if is_at 0 kinds.AmpersandAmpersand ts
    then after_read (one kinds.AmpersandAmpersand ts) (λ mark. do
      first ← dependency
      rest ← dependencies
      give (first ++ rest))
    else Read [] ts

-- ---- bodies

-- an expression, and the end of its interpolation
unfoldable pub interpolated : Phrase Expr
interpolated = do
  e ← expression
  one kinds.InterpolationEnd
  give e

-- text, or an interpolation
unfoldable pub line_fragment : Phrase (List Fragment)
line_fragment ts =
    if is_at 0 kinds.Text ts then after_read (one kinds.Text ts) (λ text. give (TextFragment text ∷ [])) else
    after_read (after_read (one kinds.InterpolationStart ts) (λ mark. interpolated)) (λ e. give (Interpolation e ∷ []))

-- the end of a line, or of the body
abbrev pub is_after_fragments : Tokens → Bool
is_after_fragments ts = is_at 0 kinds.Eol ts || is_at 0 kinds.Dedent ts

-- the fragments of a line, and its end
unfoldable pub fragments : Phrase (List Fragment)
fragments = do
  all ← many is_after_fragments line_fragment
  accepted kinds.Eol
  give all

-- a line of a body
unfoldable pub recipe_line : Phrase (List Line)
recipe_line = do
  all ← fragments
  give (all ∷ [])

-- a line, and lines without empty ones at the end
abbrev pub with_first_line : Line → List Line → List Line
with_first_line [] [] = []
with_first_line first rest = first ∷ rest

-- lines without the empty ones at the end
abbrev pub trimmed : List Line → List Line
trimmed [] = []
trimmed (first ∷ rest) = with_first_line first (trimmed rest)

-- the end of an empty line
unfoldable pub blank : Phrase (List Line)
blank = do
  one kinds.Eol
  give []

-- no empty line comes
abbrev pub is_after_blanks : Tokens → Bool
is_after_blanks ts = not (is_at 0 kinds.Eol ts)

-- the indented lines
unfoldable pub indented_lines : Phrase (List Line)
indented_lines = do
  one kinds.Indent
  lines ← many (is_at 0 kinds.Dedent) recipe_line
  one kinds.Dedent
  give (trimmed lines)

-- after empty lines, the body of a recipe, if it has one
unfoldable pub body : Phrase (List Line)
body = do
  many is_after_blanks blank
  λ ts. if is_at 0 kinds.Indent ts then indented_lines ts else Read [] ts

-- ---- whole recipes

-- a recipe of a name, with these attributes, and without any part
abbrev pub bare : List WrittenAttribute → Bool → Token → RecipeDefinition
bare all quiet name = record {
  args = args_of all;
  body = [];
  dependencies = [];
  parameters = [];
  quiet = quiet;
  recipe = record { attributes = recipe_attributes all; name = name };
  subsequents = [];
}

-- `PARAMETER ..: DEPENDENCY ..`, the end of the line, and the body: the recipe with these parts
unfoldable pub parts : RecipeDefinition → Phrase RecipeDefinition
parts r = do
  ps ← recipe_parameters
  one kinds.Colon
  before ← dependencies
  later ← subsequents
  line_end
  lines ← body
  give (record r { body = lines; dependencies = before; parameters = ps; subsequents = later })

-- after its attributes, `NAME` and its parts, with `@` before it, if it is quiet
unfoldable pub recipe : List WrittenAttribute → Phrase RecipeDefinition
recipe all = do
  quiet ← accepted kinds.At
  name ← one kinds.Identifier
  parts (bare all quiet name)
