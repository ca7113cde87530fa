-- The items of a justfile: which tokens are which item, a rule an item.
use Rattle.std.specs.Prelude.{ℕ, Bool, true, false, ◌||◌, ◌==◌, nat_eq, List, [], ◌∷◌, length}
use Rattle.std.specs.Prelude.{option_map, codes, if◌then◌else◌}
use Rattle.std.specs.List.{starts_with}
use Rattle.just_syntax.specs.Plain as syntax
use Rattle.just_syntax.specs.Plain.{Assignment, Expr, Function, Interpreter, Literal, Set, Setting, Text, Token}
use Rattle.just_syntax.specs.SettingName.{expression_named, flag_named, interpreter_named}
use Rattle.just_lexer.specs.declared.kind.TokenKind.TheVariants as kinds
use Rattle.just_expression_parser.specs.Parsed.{is_at_word}
use Rattle.just_expression_parser.specs.Tokens.{is_at}
use Rattle.just_expression_parser.specs.declared.parse_error.Fault.TheVariants as faults
use Rattle.just_parser.specs.Attributes.{are_private, attributes, string_phrase}
use Rattle.just_parser.specs.Phrase.{Phrase, Read, Refused, ◌>>=◌, ◌>>◌, accepted, after_read, comma_unless, expression}
use Rattle.just_parser.specs.Phrase.{found_at, give, give_if, in_line, many, one, refuse, value_as}
use Rattle.just_parser.specs.Plain.{Alias, Assigns, Defines, Item, Recipes, Sets, Unexports, WrittenAttribute}
use Rattle.just_parser.specs.Recipes.{recipe}
use Rattle.just_parser.specs.Settings.{form_of, indentation_of, interpreter_of}
use Rattle.just_parser.specs.Start.{start_of_item, takes_attributes}
use Rattle.just_parser.specs.declared.parse_error.Fault.TheVariants.{ExpectedBoolean, ExpectedCommand}
use Rattle.just_parser.specs.declared.parse_error.Fault.TheVariants.{ExpectedIndentation, ExpectedItem}
use Rattle.just_parser.specs.declared.parse_error.Fault.TheVariants.{ExtraneousAttributes, Syntax}
use Rattle.just_parser.specs.declared.parse_error.Fault.TheVariants.{UnknownSetting}
use Rattle.just_parser.specs.declared.parse_error.Fault.TheVariants.{Unsupported}
use Rattle.just_parser.specs.declared.setting_form.SettingForm.{SettingForm}
use Rattle.just_parser.specs.declared.setting_form.SettingForm.TheVariants as forms
use Rattle.just_parser.specs.declared.start.Start.{Start}
use Rattle.just_parser.specs.declared.start.Start.TheVariants as starts

-- ---- variables and functions

-- a name that begins with `_` is private
abbrev pub is_underscored : Text → Bool
is_underscored name = starts_with nat_eq name (codes "_")

-- a variable; no name has a number yet
abbrev pub unnumbered_variable : Bool → Bool → Bool → Token → Expr → Assignment
unnumbered_variable private eager export name value = record {
  eager = eager;
  export = export;
  name = name;
  number = 0;
  private = private || is_underscored name.lexeme;
  value = value;
}

-- `NAME := expression`
unfoldable pub assignment : Bool → Bool → Bool → Phrase Assignment
assignment private eager export = do
  name ← one kinds.Identifier
  one kinds.ColonEquals
  value ← in_line expression
  give (unnumbered_variable private eager export name value)

-- a parameter of a function, with the comma after it, if it is not the last one
unfoldable pub function_parameter : Phrase (List (Token × ℕ))
function_parameter = do
  name ← one kinds.Identifier
  comma_unless kinds.ParenR
  give ((name, 0) ∷ [])

-- `NAME(PARAMETER, ..) := expression`
unfoldable pub function : Phrase Function
function = do
  name ← one kinds.Identifier
  one kinds.ParenL
  parameters ← many (is_at 0 kinds.ParenR) function_parameter
  one kinds.ParenR
  one kinds.ColonEquals
  body ← in_line expression
  give (record { body = body; name = name; parameters = parameters })

-- ---- settings

-- `true` or `false`
unfoldable pub boolean : Phrase Bool
boolean ts =
    if is_at_word (codes "true") ts then after_read (one kinds.Identifier ts) (λ word. give true) else
    if is_at_word (codes "false") ts then after_read (one kinds.Identifier ts) (λ word. give false) else
    Refused ExpectedBoolean ts

-- `:= true` or `:= false`; without a value, a setting is on
unfoldable pub flag : Phrase Bool
flag ts = if is_at 0 kinds.ColonEquals ts then after_read (one kinds.ColonEquals ts) (λ mark. boolean) else Read true ts

-- `:=` and something
abbrev pub colon_equals : {A : Type 0} → Phrase A → Phrase A
colon_equals phrase = one kinds.ColonEquals >> phrase

-- the indentation of recipes, by the token of its string
unfoldable pub indentation_setting : Phrase Setting
indentation_setting [] = Refused (Syntax faults.ExpectedExpression) []
indentation_setting (t ∷ ts) =
    after_read (value_as ExpectedIndentation indentation_of (t ∷ ts)) (λ i. give (syntax.Indentation t.token i))

-- the value of the setting of this name
unfoldable pub setting : SettingForm → Text → Phrase Setting
setting forms.Expression name = do
  e ← colon_equals expression
  give_if UnknownSetting (expression_named name e)
setting forms.Flag name = do
  on ← flag
  give_if UnknownSetting (flag_named name on)
setting forms.Indentation name = colon_equals indentation_setting
setting forms.Interpreter name = do
  i ← colon_equals (value_as ExpectedCommand interpreter_of)
  give_if UnknownSetting (interpreter_named name i)
setting forms.Version name = do
  literal ← colon_equals string_phrase
  give (syntax.MinimumVersion literal)

-- the name of a setting, with the form of value that it takes; else it is refused
unfoldable pub setting_with_form : Phrase (Token × SettingForm)
setting_with_form ts =
    after_read (one kinds.Identifier ts)
    (λ name. found_at UnknownSetting ts (option_map (λ form. (name, form)) (form_of name.lexeme)))

-- `set NAME`, or `set NAME := value`
unfoldable pub set : Phrase Set
set = do
  one kinds.Identifier
  named ← setting_with_form
  value ← in_line (setting named.1 named.0.lexeme)
  give (record { name = named.0; value = value })

-- ---- all items

-- `alias NAME := TARGET`
unfoldable pub alias : Phrase Item
alias = do
  one kinds.Identifier
  name ← one kinds.Identifier
  one kinds.ColonEquals
  target ← in_line (one kinds.Identifier)
  give (Alias name target)

-- `unexport NAME`
unfoldable pub unexport : Phrase Item
unexport = do
  one kinds.Identifier
  name ← in_line (one kinds.Identifier)
  give (Unexports name)

-- an assignment, with these keywords before it
abbrev pub assignment_item : Bool → Bool → Bool → Phrase Item
assignment_item private eager export = do
  a ← assignment private eager export
  give (Assigns a)

-- a keyword, and something
abbrev pub after_keyword : {A : Type 0} → Phrase A → Phrase A
after_keyword phrase = one kinds.Identifier >> phrase

-- an item that begins so, after these attributes
unfoldable pub item_of : List WrittenAttribute → Start → Phrase Item
item_of all starts.Alias = alias
item_of all starts.Assignment = assignment_item (are_private all) false false
item_of all starts.Eager = after_keyword (assignment_item (are_private all) true false)
item_of all starts.Export = after_keyword (assignment_item (are_private all) false true)
item_of all starts.Function = do
  f ← function
  give (Defines f)
item_of all starts.Other = refuse ExpectedItem
item_of all starts.Recipe = do
  r ← recipe all
  give (Recipes r)
item_of all starts.Set = do
  s ← set
  give (Sets s)
item_of all starts.Unexport = unexport
item_of all starts.Unsupported = refuse Unsupported

-- an item after these attributes, if it takes them
unfoldable pub item_after : List WrittenAttribute → Phrase Item
item_after all ts =
    if (length all == 0) || takes_attributes (start_of_item ts) then item_of all (start_of_item ts) ts else
    Refused ExtraneousAttributes ts

-- attributes and an item
unfoldable pub item : Phrase Item
item = attributes >>= item_after

-- an item, or an empty line
unfoldable pub item_line : Phrase (List Item)
item_line ts =
    if is_at 0 kinds.Eol ts then after_read (one kinds.Eol ts) (λ end. give [])
    else after_read (item ts) (λ i. give (i ∷ []))

-- the items of a file, up to its end; a byte order mark may come first
unfoldable pub items : Phrase (List Item)
items = do
  accepted kinds.ByteOrderMark
  all ← many (is_at 0 kinds.Eof) item_line
  one kinds.Eof
  give all
