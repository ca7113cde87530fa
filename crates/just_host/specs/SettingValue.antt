-- What settings came to, by their names.
use Rattle.std.specs.Prelude.{Bool, true, false, not, ◌==◌, ◌++◌, List, [], ◌∷◌, length, if◌then◌else◌, codes}
use Rattle.std.specs.Prelude.{Option, Some, None, is_some, decimal}
use Rattle.std.specs.Borrow.{Bor}
use Rattle.std.specs.List.{flat_map}
use Rattle.std.specs.Option.{option_map}
use Rattle.std.specs.Str.{bytes_eq}
use Rattle.just_syntax.specs.Plain.{Text, Interpreter}
use Rattle.just_syntax.specs.View.{interpreter_view}
use Rattle.just_syntax.specs.declared.indentation.Indentation.{Indentation}
use Rattle.just_syntax.specs.declared.indentation.Indentation.TheVariants.{Spaces, Tabs}
use Rattle.just_value.specs.Shown.{quoted, shown}
use Rattle.just_value.specs.Value.{Value}
use Rattle.just_host.specs.Printed.{spaced}
use Rattle.just_host.specs.Settings.{Settings}
use Rattle.just_host.specs.declared.setting_value.SettingValue as declared
use Rattle.just_host.specs.declared.setting_value.SettingValue.TheVariants as values

pub data SettingValue : Type 0 where
  Flag : Bool → SettingValue
  IndentationOf : Option Indentation → SettingValue
  InterpreterOf : Option (Interpreter Text) → SettingValue
  OneText : Option Text → SettingValue
  Texts : Value → SettingValue

abbrev pub setting_value_view : declared.SettingValue → SettingValue
setting_value_view (values.Flag b) = Flag b
setting_value_view (values.Indentation i) = IndentationOf i
setting_value_view (values.Interpreter i) = InterpreterOf (option_map (λ i. interpreter_view i.now) i)
setting_value_view (values.Text t) = OneText (option_map (λ t. t.now) t)
setting_value_view (values.Texts v) = Texts v.now

abbrev pub setting_entry_view : Bor Text × declared.SettingValue → Text × SettingValue
setting_entry_view e = (e.0.now, setting_value_view e.1)

-- whether it is something else than in a module that sets nothing
abbrev pub is_set : SettingValue → Bool
is_set (Flag b) = b
is_set (IndentationOf i) = is_some i
is_set (InterpreterOf i) = is_some i
is_set (OneText t) = is_some t
is_set (Texts v) = not (length v == 0)

-- the settings by their names, in the order of the names
abbrev pub entries : Settings → List (Text × SettingValue)
entries s =
    (codes "allow-duplicate-recipes", Flag s.allow_duplicate_recipes)
    ∷ (codes "allow-duplicate-variables", Flag s.allow_duplicate_variables)
    ∷ (codes "default-list", Flag s.default_list)
    ∷ (codes "default-script", Flag s.default_script)
    ∷ (codes "dotenv-command", Texts s.dotenv_command)
    ∷ (codes "dotenv-filename", Texts s.dotenv_filename)
    ∷ (codes "dotenv-load", Flag s.dotenv_load)
    ∷ (codes "dotenv-override", Flag s.dotenv_override)
    ∷ (codes "dotenv-path", Texts s.dotenv_path)
    ∷ (codes "dotenv-required", Flag s.dotenv_required)
    ∷ (codes "export", Flag s.export)
    ∷ (codes "fallback", Flag s.fallback)
    ∷ (codes "guards", Flag s.guards)
    ∷ (codes "ignore-comments", Flag s.ignore_comments)
    ∷ (codes "indentation", IndentationOf s.indentation)
    ∷ (codes "lazy", Flag s.lazy)
    ∷ (codes "lists", Flag s.lists)
    ∷ (codes "no-cd", Flag s.no_cd)
    ∷ (codes "no-exit-message", Flag s.no_exit_message)
    ∷ (codes "positional-arguments", Flag s.positional_arguments)
    ∷ (codes "quiet", Flag s.quiet)
    ∷ (codes "script-interpreter", InterpreterOf s.script_interpreter)
    ∷ (codes "shell", InterpreterOf s.shell)
    ∷ (codes "tempdir", OneText s.tempdir)
    ∷ (codes "unstable", Flag s.unstable)
    ∷ (codes "windows-powershell", Flag s.windows_powershell)
    ∷ (codes "windows-shell", InterpreterOf s.windows_shell)
    ∷ (codes "working-directory", OneText s.working_directory)
    ∷ []

-- the value with a name
abbrev pub value_named : Text → List (Text × SettingValue) → Option SettingValue
value_named name [] = None
value_named name ((key, value) ∷ left) = if bytes_eq key name then Some value else value_named name left

-- a command and its first arguments, in quotes
abbrev pub interpreter_shown : Interpreter Text → Text
interpreter_shown i = quoted i.command ++ spaced i.arguments

-- a value as it is displayed
abbrev pub value_shown : SettingValue → Text
value_shown (Flag true) = codes "true"
value_shown (Flag false) = codes "false"
value_shown (IndentationOf (Some (Spaces n))) = decimal n ++ codes " spaces"
value_shown (IndentationOf (Some Tabs)) = codes "tabs"
value_shown (InterpreterOf (Some i)) = interpreter_shown i
value_shown (OneText (Some text)) = quoted text
value_shown (Texts v) = shown v
value_shown _ = codes "none"

-- the line of a setting, if it is set
abbrev pub line_of : Text × SettingValue → Text
line_of (name, value) = if is_set value then name ++ (codes " = " ++ (value_shown value ++ codes "\n")) else []

-- the lines of all settings that are set
abbrev pub settings_shown : Settings → Text
settings_shown s = flat_map line_of (entries s)
