-- The names of settings, as they are written in a justfile.
use Rattle.std.specs.Prelude.{Bool, Option, Some, None, codes, if◌then◌else◌}
use Rattle.std.specs.Str.{bytes_eq}
use Rattle.just_syntax.specs.Plain as plain
use Rattle.just_syntax.specs.Plain.{Expr, Interpreter, Setting, Text}

abbrev pub setting_name : Setting → Text
setting_name (plain.AllowDuplicateRecipes on) = codes "allow-duplicate-recipes"
setting_name (plain.AllowDuplicateVariables on) = codes "allow-duplicate-variables"
setting_name (plain.DefaultList on) = codes "default-list"
setting_name (plain.DefaultScript on) = codes "default-script"
setting_name (plain.DotenvCommand e) = codes "dotenv-command"
setting_name (plain.DotenvFilename e) = codes "dotenv-filename"
setting_name (plain.DotenvLoad on) = codes "dotenv-load"
setting_name (plain.DotenvOverride on) = codes "dotenv-override"
setting_name (plain.DotenvPath e) = codes "dotenv-path"
setting_name (plain.DotenvRequired on) = codes "dotenv-required"
setting_name (plain.Export on) = codes "export"
setting_name (plain.Fallback on) = codes "fallback"
setting_name (plain.Guards on) = codes "guards"
setting_name (plain.IgnoreComments on) = codes "ignore-comments"
setting_name (plain.Indentation t indentation) = codes "indentation"
setting_name (plain.Lazy on) = codes "lazy"
setting_name (plain.Lists on) = codes "lists"
setting_name (plain.MinimumVersion literal) = codes "minimum-version"
setting_name (plain.NoCd on) = codes "no-cd"
setting_name (plain.NoExitMessage on) = codes "no-exit-message"
setting_name (plain.PositionalArguments on) = codes "positional-arguments"
setting_name (plain.Quiet on) = codes "quiet"
setting_name (plain.ScriptInterpreter i) = codes "script-interpreter"
setting_name (plain.Shell i) = codes "shell"
setting_name (plain.Tempdir e) = codes "tempdir"
setting_name (plain.Unstable on) = codes "unstable"
setting_name (plain.WindowsPowerShell on) = codes "windows-powershell"
setting_name (plain.WindowsShell i) = codes "windows-shell"
setting_name (plain.WorkingDirectory e) = codes "working-directory"

-- the setting of this name that is on or off
abbrev pub flag_named : Text → Bool → Option Setting
flag_named name on =
    if bytes_eq name (codes "allow-duplicate-recipes") then Some (plain.AllowDuplicateRecipes on) else
    if bytes_eq name (codes "allow-duplicate-variables") then Some (plain.AllowDuplicateVariables on) else
    if bytes_eq name (codes "default-list") then Some (plain.DefaultList on) else
    if bytes_eq name (codes "default-script") then Some (plain.DefaultScript on) else
    if bytes_eq name (codes "dotenv-load") then Some (plain.DotenvLoad on) else
    if bytes_eq name (codes "dotenv-override") then Some (plain.DotenvOverride on) else
    if bytes_eq name (codes "dotenv-required") then Some (plain.DotenvRequired on) else
    if bytes_eq name (codes "export") then Some (plain.Export on) else
    if bytes_eq name (codes "fallback") then Some (plain.Fallback on) else
    if bytes_eq name (codes "guards") then Some (plain.Guards on) else
    if bytes_eq name (codes "ignore-comments") then Some (plain.IgnoreComments on) else
    if bytes_eq name (codes "lazy") then Some (plain.Lazy on) else
    if bytes_eq name (codes "lists") then Some (plain.Lists on) else
    if bytes_eq name (codes "no-cd") then Some (plain.NoCd on) else
    if bytes_eq name (codes "no-exit-message") then Some (plain.NoExitMessage on) else
    if bytes_eq name (codes "positional-arguments") then Some (plain.PositionalArguments on) else
    if bytes_eq name (codes "quiet") then Some (plain.Quiet on) else
    if bytes_eq name (codes "unstable") then Some (plain.Unstable on) else
    if bytes_eq name (codes "windows-powershell") then Some (plain.WindowsPowerShell on) else
    None

-- the setting of this name that takes an expression
abbrev pub expression_named : Text → Expr → Option Setting
expression_named name e =
    if bytes_eq name (codes "dotenv-command") then Some (plain.DotenvCommand e) else
    if bytes_eq name (codes "dotenv-filename") then Some (plain.DotenvFilename e) else
    if bytes_eq name (codes "dotenv-path") then Some (plain.DotenvPath e) else
    if bytes_eq name (codes "tempdir") then Some (plain.Tempdir e) else
    if bytes_eq name (codes "working-directory") then Some (plain.WorkingDirectory e) else
    None

-- the setting of this name that takes a command with its first arguments
abbrev pub interpreter_named : Text → Interpreter Expr → Option Setting
interpreter_named name i =
    if bytes_eq name (codes "script-interpreter") then Some (plain.ScriptInterpreter i) else
    if bytes_eq name (codes "shell") then Some (plain.Shell i) else
    if bytes_eq name (codes "windows-shell") then Some (plain.WindowsShell i) else
    None
