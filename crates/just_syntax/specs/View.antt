-- The plain syntax of each declared type.
use Rattle.std.specs.Prelude.{ℕ, List, [], ◌∷◌, map, nat_eq, Option, Some, None, string_bytes, option_map}
use Rattle.std.specs.BTreeMap.{BTreeMap}
use Rattle.std.specs.HashMap.{HashMap}
use Rattle.std.specs.Map.{lookup}
use Rattle.std.specs.declared.string.String.{String}
use Rattle.just_syntax.specs.declared.place.Place.{Place}
use Rattle.just_syntax.specs.declared.token.Token.{Token}
use Rattle.just_syntax.specs.declared.name.Name.{Name}
use Rattle.just_syntax.specs.declared.number.Number.{Number}
use Rattle.just_syntax.specs.declared.string_literal.StringLiteral.{StringLiteral as Written}
use Rattle.just_syntax.specs.declared.expression.Expression.{Expression, And', Assert', Backtick, Call', Comparison'}
use Rattle.just_syntax.specs.declared.expression.Expression.{Concatenation', Conditional', FormatString', Group', Join'}
use Rattle.just_syntax.specs.declared.expression.Expression.{List', ListConcatenation', Not', Or', StringLiteral}
use Rattle.just_syntax.specs.declared.expression.Expression.{Variable, Row_of-Expression, end_of-Expression}
use Rattle.just_syntax.specs.declared.expression.Expression.{more_of-Expression, Row_of-Expression-FormatString-1-2}
use Rattle.just_syntax.specs.declared.expression.Expression.{end_of-Expression-FormatString-1-2}
use Rattle.just_syntax.specs.declared.expression.Expression.{more_of-Expression-FormatString-1-2}
use Rattle.just_syntax.specs.declared.expression.Expression.{Held-Expression-Assert-1, None', Some'}
use Rattle.just_syntax.specs.declared.assignment.Assignment.{Assignment}
use Rattle.just_syntax.specs.declared.attribute.Attribute.{Attribute}
use Rattle.just_syntax.specs.declared.attribute.Attribute.TheVariants.{Env, Other}
use Rattle.just_syntax.specs.declared.attribute_set.AttributeSet.{AttributeSet}
use Rattle.just_syntax.specs.declared.fragment.Fragment.{Fragment}
use Rattle.just_syntax.specs.declared.fragment.Fragment.TheVariants.{Interpolation, Text}
use Rattle.just_syntax.specs.declared.function_definition.FunctionDefinition.{FunctionDefinition}
use Rattle.just_syntax.specs.declared.enclosure.Enclosure.{Enclosure}
use Rattle.just_syntax.specs.declared.interpreter.Interpreter.{Interpreter}
use Rattle.just_syntax.specs.declared.line.Line.{Line}
use Rattle.just_syntax.specs.declared.occurrence.Occurrence as declared_occurrence
use Rattle.just_syntax.specs.declared.occurrence.Occurrence.TheVariants as occurrences
use Rattle.just_syntax.specs.declared.parameter.Parameter.{Parameter}
use Rattle.just_syntax.specs.declared.recipe.Recipe.{Recipe}
use Rattle.just_syntax.specs.declared.set.Set as declared_set
use Rattle.just_syntax.specs.declared.setting.Setting as declared_setting
use Rattle.just_syntax.specs.declared.setting.Setting.TheVariants as settings
use Rattle.just_syntax.specs.declared.string_context.StringContext as declared_context
use Rattle.just_syntax.specs.declared.string_context.StringContext.TheVariants as contexts
use Rattle.just_syntax.specs.declared.variable_error.VariableError.{VariableError}
use Rattle.just_syntax.specs.declared.variable_error.VariableError.TheVariants as variables
use Rattle.just_syntax.specs.Occurrences.{CallAt, CommandAt, Occurrence, VariableAt}
use Rattle.just_syntax.specs.Plain as plain
use Rattle.just_syntax.specs.StringContext.{StringContext, EnvKey, Function, Setting}
use Rattle.just_syntax.specs.Plain.{Expr, Exprs, Pieces}

abbrev pub place_view : Place → plain.Place
place_view p = record { column = p.column; line = p.line; offset = p.offset; path = p.path.now }

abbrev pub token_view : Token → plain.Token
token_view t = record { column = t.column; line = t.line; offset = t.offset; lexeme = t.lexeme.now; path = t.path.now }

abbrev pub name_view : Name → plain.Token
name_view name = token_view name.token

abbrev pub literal_view : Written → plain.Literal
literal_view s = record { cooked = s.cooked; lexeme = s.lexeme.now; indented = s.indented }

abbrev pub assert_view : Expr → Option Expr → plain.Token → Expr
assert_view e (Some m) t = plain.Assert e m t
assert_view e None t = plain.AssertOnly e t

abbrev pub conditional : Expr → Expr → Option Expr → Expr
conditional e a (Some b) = plain.Conditional e a b
conditional e a None = plain.ConditionalOnly e a

abbrev pub join : Option Expr → plain.Token → Expr → Expr
join (Some l) t r = plain.Join l t r
join None t r = plain.JoinOnly t r

abbrev mutual
  pub view : Expression → Expr
  view (And' p l q r) = plain.And (view l) (view r)
  view (Assert' p e m name) = assert_view (view e) (held_view m) (name_view name)
  view (Backtick contents t) = plain.Backtick (string_bytes contents) (token_view t)
  view (Call' shape es name) = plain.Call (name_view name) (row_view es)
  view (Comparison' p l o q r t) = plain.Comparison (view l) o (view r) (token_view t)
  view (Concatenation' p l t q r) = plain.Concatenation (view l) (token_view t) (view r)
  view (Conditional' p e q a b) = conditional (view e) (view a) (held_view b)
  view (FormatString' start shape es) = plain.FormatString (literal_view start) (pieces_view es)
  view (Group' p e) = plain.Group (view e)
  view (Join' l t q r) = join (held_view l) (token_view t) (view r)
  view (List' shape es t) = plain.ListOf (row_view es) (token_view t)
  view (ListConcatenation' p l t q r) = plain.ListConcatenation (view l) (token_view t) (view r)
  view (Not' p e) = plain.Not (view e)
  view (Or' p l q r) = plain.Or (view l) (view r)
  view (StringLiteral literal) = plain.StringLiteral (literal_view literal)
  view (Variable name number) = plain.Variable (name_view name) number

  pub row_view : {n : _} → Row_of-Expression n → Exprs
  row_view end_of-Expression = plain.Nil
  row_view (more_of-Expression e rest) = plain.Cons (view e) (row_view rest)

  pub pieces_view : {n : _} → Row_of-Expression-FormatString-1-2 n → Pieces
  pieces_view end_of-Expression-FormatString-1-2 = plain.NoPiece
  pieces_view (more_of-Expression-FormatString-1-2 e literal rest) =
      plain.Piece (view e) (literal_view literal) (pieces_view rest)

  pub held_view : Held-Expression-Assert-1 → Option Expr
  held_view None' = None
  held_view (Some' p e) = Some (view e)

-- a row of expressions
abbrev pub views : List Expression → Exprs
views [] = plain.Nil
views (e ∷ es) = plain.Cons (view e) (views es)

-- an interpolation, with the text after it
abbrev pub piece_view : Expression × Written → Expr × plain.Literal
piece_view p = (view p.0, literal_view p.1)

-- interpolations, each with the text after it
abbrev pub piece_views : List (Expression × Written) → Pieces
piece_views [] = plain.NoPiece
piece_views (p ∷ ps) = plain.Piece (view p.0) (literal_view p.1) (piece_views ps)

abbrev pub assignment_view : Assignment → plain.Assignment
assignment_view a = record {
  eager = a.eager;
  export = a.export;
  name = name_view a.name;
  number = a.number;
  private = a.private;
  value = view a.value;
}

abbrev pub parameter_view : Name × Number → plain.Token × ℕ
parameter_view p = (name_view p.0, p.1)

abbrev pub function_view : FunctionDefinition → plain.Function
function_view f =
    record { body = view f.body; name = name_view f.name; parameters = map parameter_view f.parameters.items }

abbrev pub attribute_view : Attribute → plain.Attribute
attribute_view (Env key value) = plain.Env (view key) (view value)
attribute_view Other = plain.Other

-- an attribute with its name
abbrev pub named_attribute_view : Attribute × Name → plain.Attribute × plain.Token
named_attribute_view pair = (attribute_view pair.0, name_view pair.1)

-- the attributes, each with its name, in their order
abbrev pub attributes_view : AttributeSet → List (plain.Attribute × plain.Token)
attributes_view set = map named_attribute_view set.attributes.items

abbrev pub interpreter_view : {A : Type 0} → Interpreter (String A) → plain.Interpreter plain.Text
interpreter_view i = record { arguments = map string_bytes i.arguments.items; command = string_bytes i.command }

-- a command and its first arguments, which are expressions
abbrev pub expression_interpreter_view : Interpreter Expression → plain.Interpreter Expr
expression_interpreter_view i = record { arguments = map view i.arguments.items; command = view i.command }

abbrev pub setting_view : declared_setting.Setting → plain.Setting
setting_view (settings.AllowDuplicateRecipes on) = plain.AllowDuplicateRecipes on
setting_view (settings.AllowDuplicateVariables on) = plain.AllowDuplicateVariables on
setting_view (settings.DefaultList on) = plain.DefaultList on
setting_view (settings.DefaultScript on) = plain.DefaultScript on
setting_view (settings.DotenvCommand e) = plain.DotenvCommand (view e)
setting_view (settings.DotenvFilename e) = plain.DotenvFilename (view e)
setting_view (settings.DotenvLoad on) = plain.DotenvLoad on
setting_view (settings.DotenvOverride on) = plain.DotenvOverride on
setting_view (settings.DotenvPath e) = plain.DotenvPath (view e)
setting_view (settings.DotenvRequired on) = plain.DotenvRequired on
setting_view (settings.Export on) = plain.Export on
setting_view (settings.Fallback on) = plain.Fallback on
setting_view (settings.Guards on) = plain.Guards on
setting_view (settings.IgnoreComments on) = plain.IgnoreComments on
setting_view (settings.Indentation t indentation) = plain.Indentation (token_view t) indentation
setting_view (settings.Lazy on) = plain.Lazy on
setting_view (settings.Lists on) = plain.Lists on
setting_view (settings.MinimumVersion literal) = plain.MinimumVersion (literal_view literal)
setting_view (settings.NoCd on) = plain.NoCd on
setting_view (settings.NoExitMessage on) = plain.NoExitMessage on
setting_view (settings.PositionalArguments on) = plain.PositionalArguments on
setting_view (settings.Quiet on) = plain.Quiet on
setting_view (settings.ScriptInterpreter i) = plain.ScriptInterpreter (expression_interpreter_view i)
setting_view (settings.Shell i) = plain.Shell (expression_interpreter_view i)
setting_view (settings.Tempdir e) = plain.Tempdir (view e)
setting_view (settings.Unstable on) = plain.Unstable on
setting_view (settings.WindowsPowerShell on) = plain.WindowsPowerShell on
setting_view (settings.WindowsShell i) = plain.WindowsShell (expression_interpreter_view i)
setting_view (settings.WorkingDirectory e) = plain.WorkingDirectory (view e)

abbrev pub set_view : declared_set.Set → plain.Set
set_view s = record { name = name_view s.name; value = setting_view s.value }

-- the recipe's parameter
abbrev pub recipe_parameter_view : Parameter → plain.Parameter
recipe_parameter_view p = record {
  default = option_map view p.default;
  export = p.export;
  flag = p.flag;
  kind = p.kind;
  multiple = p.multiple;
  name = name_view p.name;
  number = p.number;
  value = option_map view p.value;
}

abbrev pub recipe_view : Recipe → plain.Recipe
recipe_view r = record { attributes = attributes_view r.attributes; name = name_view r.name }

abbrev pub fragment_view : Fragment → plain.Fragment
fragment_view (Text t) = plain.TextFragment (token_view t)
fragment_view (Interpolation e) = plain.Interpolation (view e)

-- the fragments of a line
abbrev pub line_view : Line → List plain.Fragment
line_view line = map fragment_view line.fragments.items

abbrev pub string_context_view : declared_context.StringContext → StringContext
string_context_view (contexts.EnvKey name) = EnvKey (name_view name)
string_context_view (contexts.Function name) = Function (name_view name)
string_context_view (contexts.Setting name) = Setting (name_view name)

-- the value in the backticks
abbrev pub enclosed : {T : Type 0} → Enclosure T → T
enclosed e = e.value

-- a pair of two texts, for example a name and its text
abbrev pub pair_view : {A B : Type 0} → String A × String B → plain.Text × plain.Text
pair_view pair = (string_bytes pair.0, string_bytes pair.1)

-- a map of texts: its pairs, in ascending order of keys
abbrev pub pairs_view : {A B : Type 0} → BTreeMap (String A) (String B) → List (plain.Text × plain.Text)
pairs_view m = map pair_view m.entries

-- the text that a map has for a number
abbrev pub text_numbered : {A S : Type 0} → HashMap ℕ (String A) S → ℕ → Option plain.Text
text_numbered m n = option_map string_bytes (lookup (nat_eq n) m.entries)

-- the name that no variable has; `None` for `OutOfMemory`
abbrev pub unknown_name : VariableError → Option plain.Text
unknown_name (variables.Unknown name) = Some name.now
unknown_name variables.OutOfMemory = None

abbrev pub occurrence_view : declared_occurrence.Occurrence → Occurrence
occurrence_view (occurrences.Command contents t) = CommandAt (token_view t) contents.now
occurrence_view (occurrences.Call name arguments) = CallAt (name_view name) arguments
occurrence_view (occurrences.Variable name number) = VariableAt (name_view name) number

abbrev pub occurrences_view : List declared_occurrence.Occurrence → List Occurrence
occurrences_view os = map occurrence_view os
