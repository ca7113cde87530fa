-- Settings whose variables have the numbers of their names.
use Rattle.std.specs.Prelude.{ℕ, Option, Some, None, map}
use Rattle.just_syntax.specs.Plain.{DotenvCommand, DotenvFilename, DotenvPath, Expr, Interpreter, ScriptInterpreter}
use Rattle.just_syntax.specs.Plain.{Setting, Shell, Tempdir, Text, WindowsShell, WorkingDirectory}
use Rattle.just_resolve.specs.Numbered.{numbered_expression}

abbrev pub numbered_interpreter : (Text → Option ℕ) → Interpreter Expr → Interpreter Expr
numbered_interpreter names i =
    record { arguments = map (numbered_expression names) i.arguments; command = numbered_expression names i.command }

-- `None`, if the setting has no expression
abbrev pub numbered_setting : (Text → Option ℕ) → Setting → Option Setting
numbered_setting names (DotenvCommand e) = Some (DotenvCommand (numbered_expression names e))
numbered_setting names (DotenvFilename e) = Some (DotenvFilename (numbered_expression names e))
numbered_setting names (DotenvPath e) = Some (DotenvPath (numbered_expression names e))
numbered_setting names (ScriptInterpreter i) = Some (ScriptInterpreter (numbered_interpreter names i))
numbered_setting names (Shell i) = Some (Shell (numbered_interpreter names i))
numbered_setting names (Tempdir e) = Some (Tempdir (numbered_expression names e))
numbered_setting names (WindowsShell i) = Some (WindowsShell (numbered_interpreter names i))
numbered_setting names (WorkingDirectory e) = Some (WorkingDirectory (numbered_expression names e))
numbered_setting names _ = None
