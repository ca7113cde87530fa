-- What settings, interpreters and texts evaluate to before any run.
use Rattle.std.specs.Prelude.{List, [], ◌∷◌, ◌++◌, Some}
use Rattle.just_syntax.specs.Plain as plain
use Rattle.just_syntax.specs.Plain.{Text, Token, Expr, Interpreter, Set}
use Rattle.just_syntax.specs.StringContext as contexts
use Rattle.just_syntax.specs.StringContext.{StringContext}
use Rattle.just_value.specs.Value.{Value}
use Rattle.just_value.specs.Refusal.{EmptyInterpreter, ListInStringContext}
use Rattle.just_value.specs.Outcome.{Outcome, Gave, Refused, and_then}
use Rattle.just_host.specs.Settings.{Settings, unset}

-- what expressions evaluate to
abbrev pub Evaluates : Type 0
Evaluates = Expr → Outcome Value

-- a value where a single text is required: its one element
abbrev pub text_in : StringContext → Value → Outcome Text
text_in context (text ∷ []) = Gave text
text_in context v = Refused (ListInStringContext context v)

abbrev pub const_string : Evaluates → StringContext → Expr → Outcome Text
const_string evaluates context e = and_then (evaluates e) (text_in context)

-- the elements of all, in their order
abbrev pub elements : Evaluates → List Expr → Outcome Value
elements evaluates [] = Gave []
elements evaluates (e ∷ es) = and_then (evaluates e) (λ v. and_then (elements evaluates es) (λ w. Gave (v ++ w)))

-- the first element is the command, and the others are its arguments
abbrev pub command_of : Token → Value → Outcome (Interpreter Text)
command_of setting [] = Refused (EmptyInterpreter setting)
command_of setting (command ∷ arguments) = Gave (record { arguments = arguments; command = command })

abbrev pub interpreter : Evaluates → Token → Interpreter Expr → Outcome (Interpreter Text)
interpreter evaluates setting i = and_then (elements evaluates (i.command ∷ i.arguments)) (command_of setting)

-- settings with one more, which needs no evaluation
abbrev pub kept : Settings → plain.Setting → Settings
kept s (plain.AllowDuplicateRecipes b) = record s { allow_duplicate_recipes = b }
kept s (plain.AllowDuplicateVariables b) = record s { allow_duplicate_variables = b }
kept s (plain.DefaultList b) = record s { default_list = b }
kept s (plain.DefaultScript b) = record s { default_script = b }
kept s (plain.DotenvLoad b) = record s { dotenv_load = b }
kept s (plain.DotenvOverride b) = record s { dotenv_override = b }
kept s (plain.DotenvRequired b) = record s { dotenv_required = b }
kept s (plain.Export b) = record s { export = b }
kept s (plain.Fallback b) = record s { fallback = b }
kept s (plain.Guards b) = record s { guards = b }
kept s (plain.IgnoreComments b) = record s { ignore_comments = b }
kept s (plain.Indentation t i) = record s { indentation = Some i }
kept s (plain.Lazy b) = record s { lazy = b }
kept s (plain.Lists b) = record s { lists = b }
kept s (plain.NoCd b) = record s { no_cd = b }
kept s (plain.NoExitMessage b) = record s { no_exit_message = b }
kept s (plain.PositionalArguments b) = record s { positional_arguments = b }
kept s (plain.Quiet b) = record s { quiet = b }
kept s (plain.Unstable b) = record s { unstable = b }
kept s (plain.WindowsPowerShell b) = record s { windows_powershell = b }
-- the minimum version concerns the reader of the file; the other settings are evaluated
kept s _ = s

-- settings with one more
abbrev pub with_setting : Evaluates → Settings → Token → plain.Setting → Outcome Settings
with_setting evaluates s name (plain.DotenvCommand e) =
    and_then (evaluates e) (λ v. Gave (record s { dotenv_command = v }))
with_setting evaluates s name (plain.DotenvFilename e) =
    and_then (evaluates e) (λ v. Gave (record s { dotenv_filename = v }))
with_setting evaluates s name (plain.DotenvPath e) = and_then (evaluates e) (λ v. Gave (record s { dotenv_path = v }))
with_setting evaluates s name (plain.ScriptInterpreter i) =
    and_then (interpreter evaluates name i) (λ command. Gave (record s { script_interpreter = Some command }))
with_setting evaluates s name (plain.Shell i) =
    and_then (interpreter evaluates name i) (λ command. Gave (record s { shell = Some command }))
with_setting evaluates s name (plain.Tempdir e) =
    and_then (const_string evaluates (contexts.Setting name) e) (λ text. Gave (record s { tempdir = Some text }))
with_setting evaluates s name (plain.WindowsShell i) =
    and_then (interpreter evaluates name i) (λ command. Gave (record s { windows_shell = Some command }))
with_setting evaluates s name (plain.WorkingDirectory e) = and_then (const_string evaluates (contexts.Setting name) e)
    (λ text. Gave (record s { working_directory = Some text }))
with_setting evaluates s name x = Gave (kept s x)

-- settings with several more, one after another
abbrev pub with_settings : Evaluates → Settings → List Set → Outcome Settings
with_settings evaluates s [] = Gave s
with_settings evaluates s (x ∷ xs) =
    and_then (with_setting evaluates s x.name x.value) (λ s'. with_settings evaluates s' xs)

-- the settings of a module
abbrev pub settings : Evaluates → List Set → Outcome Settings
settings evaluates sets = with_settings evaluates unset sets
