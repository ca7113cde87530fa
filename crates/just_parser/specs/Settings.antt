-- The settings of `set` statements: which form of value each takes, and what a value of that form is.
use Rattle.std.specs.Prelude.{Bool, true, ◌==◌, ◌&&◌, ◌||◌, nat_lt, length, Option, Some, None}
use Rattle.std.specs.Prelude.{if◌then◌else◌, bytes_eq, codes}
use Rattle.std.specs.List.{list_all}
use Rattle.std.specs.Option.{is_some}
use Rattle.just_syntax.specs.Plain as plain
use Rattle.just_syntax.specs.Plain.{Expr, Interpreter, Literal, Text}
use Rattle.just_syntax.specs.SettingName.{flag_named}
use Rattle.just_syntax.specs.declared.indentation.Indentation.{Indentation}
use Rattle.just_syntax.specs.declared.indentation.Indentation.TheVariants.{Spaces, Tabs}
use Rattle.just_expression_parser.specs.Machine.{expression_list}
use Rattle.just_parser.specs.declared.setting_form.SettingForm.{SettingForm}
use Rattle.just_parser.specs.declared.setting_form.SettingForm.TheVariants as forms

-- ---- names

abbrev pub takes_interpreter : Text → Bool
takes_interpreter name =
    bytes_eq name (codes "script-interpreter")
    || (bytes_eq name (codes "shell") || bytes_eq name (codes "windows-shell"))

abbrev pub takes_expression : Text → Bool
takes_expression name =
    bytes_eq name (codes "dotenv-command") || (bytes_eq name (codes "dotenv-filename")
    || (bytes_eq name (codes "dotenv-path")
    || (bytes_eq name (codes "tempdir") || bytes_eq name (codes "working-directory"))))

-- the form of value that the setting of a name takes, if there is such a setting
unfoldable pub form_of : Text → Option SettingForm
form_of name =
    if takes_interpreter name then Some forms.Interpreter else
    if takes_expression name then Some forms.Expression else
    if bytes_eq name (codes "indentation") then Some forms.Indentation else
    if bytes_eq name (codes "minimum-version") then Some forms.Version else
    if is_some (flag_named name true) then Some forms.Flag else
    None

-- ---- values

-- a list is a command and its first arguments, if it has an element
abbrev pub interpreter_of : Expr → Option (Interpreter Expr)
interpreter_of (plain.ListOf (plain.Cons command arguments) token) =
    Some (record { arguments = expression_list arguments; command = command })
interpreter_of _ = None

-- a string
abbrev pub literal_of_string : Expr → Option Literal
literal_of_string (plain.StringLiteral literal) = Some literal
literal_of_string _ = None

-- a tab, or some spaces
unfoldable pub indentation_of_text : Text → Option Indentation
indentation_of_text text =
    if bytes_eq text (codes "\t") then Some Tabs else
    if nat_lt 0 (length text) && list_all (λ byte. byte == 32) text then Some (Spaces (length text)) else
    None

-- a string of a tab, or of some spaces
abbrev pub indentation_of : Expr → Option Indentation
indentation_of (plain.StringLiteral literal) = indentation_of_text literal.cooked
indentation_of _ = None
