-- The attributes before an item: which tokens are which attribute, a rule a part.
use Rattle.std.specs.Prelude.{Bool, not, ◌&&◌, List, [], ◌∷◌, ◌++◌, Some, None, map, if◌then◌else◌, bytes_eq, codes}
use Rattle.std.specs.List.{flat_map, list_any}
use Rattle.std.specs.Option.{option_to_list}
use Rattle.just_syntax.specs.Plain.{Attribute, Env, Expr, Literal, Other, Text, Token}
use Rattle.just_lexer.specs.declared.kind.TokenKind.TheVariants as kinds
use Rattle.just_expression_parser.specs.Tokens.{Tokens, is_at}
use Rattle.just_parser.specs.Phrase.{Phrase, Read, ◌>>=◌, ◌>>◌, after_read, comma_unless, expected, expression, give}
use Rattle.just_parser.specs.Phrase.{line_end, many, one, value, value_as}
use Rattle.just_parser.specs.Plain.{ArgAttribute, ArgOption, Flag, Multiple, Value, WrittenAttribute}
use Rattle.just_parser.specs.Settings.{literal_of_string}

-- a comma, if it is there, and a parenthesis
unfoldable pub close : Phrase Unit
close = do
  comma_unless kinds.ParenR
  one kinds.ParenR
  give tt

-- a string
abbrev pub string_phrase : Phrase Literal
string_phrase = value_as (expected kinds.StringToken) literal_of_string

-- ---- what evaluation ignores

-- an expression, of which nothing is kept
unfoldable pub ignored : Phrase Unit
ignored = do
  expression
  give tt

-- `= e`, if it is there
unfoldable pub ignored_value : Phrase Unit
ignored_value ts = if is_at 0 kinds.Equals ts then after_read (one kinds.Equals ts) (λ mark. ignored) else Read tt ts

-- `e` or `NAME = e`
unfoldable pub ignored_argument : Phrase Unit
ignored_argument ts =
    if is_at 0 kinds.Identifier ts && is_at 1 kinds.Equals ts
    then after_read (one kinds.Identifier ts) (λ name. ignored_value)
    else ignored ts

-- an argument, with the comma after it, if it is not the last one
unfoldable pub ignored_element : Phrase (List Unit)
ignored_element = do
  ignored_argument
  comma_unless kinds.ParenR
  give []

-- `: v`, or `(ARGUMENT, ..)`, or nothing
unfoldable pub ignored_arguments : Phrase Unit
ignored_arguments ts =
    if is_at 0 kinds.Colon ts then after_read (after_read (one kinds.Colon ts) (λ mark. value)) (λ e. give tt) else
    if is_at 0 kinds.ParenL ts
    then after_read (one kinds.ParenL ts) (λ mark. do
      many (is_at 0 kinds.ParenR) ignored_element
      one kinds.ParenR
      give tt)
    else Read tt ts

-- ---- `env`

-- `, VALUE)`
unfoldable pub env_value : Phrase Expr
env_value = do
  one kinds.Comma
  e ← expression
  close
  give e

-- `(KEY, VALUE)`
unfoldable pub env : Phrase Attribute
env = do
  one kinds.ParenL
  key ← expression
  e ← env_value
  give (Env key e)

-- ---- `arg`

-- `= e`
unfoldable pub option_value : Phrase (List ArgOption)
option_value = do
  one kinds.Equals
  e ← expression
  give (Value e ∷ [])

-- what comes after the name of an option
unfoldable pub option_named : Text → Phrase (List ArgOption)
option_named name =
    if bytes_eq name (codes "flag") then give (Flag ∷ []) else
    if bytes_eq name (codes "multiple") then give (Multiple ∷ []) else
    if bytes_eq name (codes "value") then option_value else
    ignored_value >> give []

-- an option, with the comma after it, if it is not the last one
unfoldable pub arg_option : Phrase (List ArgOption)
arg_option = do
  name ← one kinds.Identifier
  found ← option_named name.lexeme
  comma_unless kinds.ParenR
  give found

-- after the name of the parameter: `, OPTION, ..)`
unfoldable pub arg_options : Phrase (List ArgOption)
arg_options = do
  comma_unless kinds.ParenR
  options ← many (is_at 0 kinds.ParenR) arg_option
  one kinds.ParenR
  give options

-- after its name: `('PARAMETER', OPTION, ..)`
unfoldable pub arg : Token → Phrase ArgAttribute
arg name = do
  one kinds.ParenL
  parameter ← string_phrase
  options ← arg_options
  give (record { name = name; options = options; parameter = parameter })

-- ---- attributes of all names

-- what comes after the name of an attribute
unfoldable pub attribute_of : Token → Phrase WrittenAttribute
attribute_of name =
    if bytes_eq name.lexeme (codes "arg")
    then arg name >>= (λ a. give (record { arg = Some a; attribute = Other; name = name })) else
    if bytes_eq name.lexeme (codes "env")
    then env >>= (λ a. give (record { arg = None; attribute = a; name = name })) else
    ignored_arguments >> give (record { arg = None; attribute = Other; name = name })

-- an attribute, with the comma after it, if it is not the last one
unfoldable pub attribute : Phrase (List WrittenAttribute)
attribute = do
  name ← one kinds.Identifier
  a ← attribute_of name
  comma_unless kinds.BracketR
  give (a ∷ [])

-- `[ATTRIBUTE, ..]`, and the end of its line
unfoldable pub attribute_line : Phrase (List WrittenAttribute)
attribute_line = do
  one kinds.BracketL
  first ← attribute
  rest ← many (is_at 0 kinds.BracketR) attribute
  one kinds.BracketR
  line_end
  give (first ++ rest)

-- no attribute begins
abbrev pub is_after_attributes : Tokens → Bool
is_after_attributes ts = not (is_at 0 kinds.BracketL ts)

-- the attributes before an item, a line after another
abbrev pub attributes : Phrase (List WrittenAttribute)
attributes = many is_after_attributes attribute_line

-- ---- what attributes say

-- the attributes of a recipe
abbrev pub recipe_attributes : List WrittenAttribute → List (Attribute × Token)
recipe_attributes all = map (λ (w : WrittenAttribute). (w.attribute, w.name)) all

-- what they say of its parameters
abbrev pub args_of : List WrittenAttribute → List ArgAttribute
args_of all = flat_map (λ (w : WrittenAttribute). option_to_list w.arg) all

-- an attribute is `private`
abbrev pub is_private : WrittenAttribute → Bool
is_private w = bytes_eq w.name.lexeme (codes "private")

-- one of them is
abbrev pub are_private : List WrittenAttribute → Bool
are_private all = list_any is_private all
