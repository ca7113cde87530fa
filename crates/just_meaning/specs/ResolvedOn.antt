-- When expressions, lines and settings are resolved on a const evaluator.
use Rattle.std.specs.Prelude.{◌≡◌, ◌⊎◌, ℕ, true, List, [], ◌∷◌, ◌++◌, Some}
use Rattle.std.specs.List.{AllByRecursion}
use Rattle.just_syntax.specs.Plain as plain
use Rattle.just_syntax.specs.Plain.{Expr, Interpreter, Set}
use Rattle.just_value.specs.Frames.{value_in}
use Rattle.just_syntax.specs.Occurrences.{VariableOf}
use Rattle.just_meaning.specs.Reaches.{Occurs}
use Rattle.just_meaning.specs.Resolved.{HasValue, IsNumbered}
use Rattle.just_meaning.specs.Stage.{StageState}

-- Each variable in the expression has a number that is bound or open. There is no condition on the names that are
-- called.
pub record IsResolvedOn (s : StageState) (e : Expr) : Type 0 where
  pub numbered : IsNumbered e
  pub known : (n : ℕ) → Occurs e (VariableOf (Some n)) → HasValue (value_in s.frames) n ⊎ (s.is_open n ≡ true)

abbrev pub AllResolvedOn : StageState → List Expr → Type 0
AllResolvedOn s es = AllByRecursion (IsResolvedOn s) es

-- the expressions of a command and its arguments
abbrev pub interpreter_expressions : Interpreter Expr → List Expr
interpreter_expressions i = i.command ∷ i.arguments

-- the expressions of a setting
abbrev pub setting_expressions : plain.Setting → List Expr
setting_expressions (plain.DotenvCommand e) = e ∷ []
setting_expressions (plain.DotenvFilename e) = e ∷ []
setting_expressions (plain.DotenvPath e) = e ∷ []
setting_expressions (plain.ScriptInterpreter i) = interpreter_expressions i
setting_expressions (plain.Shell i) = interpreter_expressions i
setting_expressions (plain.Tempdir e) = e ∷ []
setting_expressions (plain.WindowsShell i) = interpreter_expressions i
setting_expressions (plain.WorkingDirectory e) = e ∷ []
setting_expressions _ = []

-- the expressions of a module's settings
abbrev pub set_expressions : List Set → List Expr
set_expressions [] = []
set_expressions (x ∷ xs) = setting_expressions x.value ++ set_expressions xs
