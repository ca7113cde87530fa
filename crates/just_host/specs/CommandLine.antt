-- The words of a command line.
use Rattle.std.specs.Prelude.{Bool, List, [], ◌∷◌, ◌++◌, Option, Some, None, if◌then◌else◌}
use Rattle.just_syntax.specs.Plain.{Text}
use Rattle.just_host.specs.Question.{BlindCommand}
use Rattle.just_host.specs.Settings.{shell_of}

-- The words after a command that takes arguments: the arguments, preceded by a copy of the command if the shell takes
-- its own name there.
abbrev pub after_command : Bool → Text → Option (List Text) → List Text
after_command takes_shell_name command None = []
after_command takes_shell_name command (Some arguments) = if takes_shell_name then command ∷ arguments else arguments

-- the shell, its arguments, the command, and the words after it
abbrev pub command_line : Bool → BlindCommand → List Text
command_line takes_shell_name c =
    let shell = shell_of c.settings c.config in
    (shell.command ∷ shell.arguments) ++ (c.command ∷ after_command takes_shell_name c.command c.arguments)
