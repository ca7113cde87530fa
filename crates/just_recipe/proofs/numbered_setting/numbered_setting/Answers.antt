use Rattle.std.proofs.Common.{ap, refl, ⊎_elim}
use Rattle.just_syntax.specs.Plain.{ScriptInterpreter, Shell, WindowsShell}
use Rattle.just_syntax.specs.View.{expression_interpreter_view, setting_view}
use Rattle.just_recipe.proofs.Copying.{command_copied}
use Rattle.just_recipe.proofs.numbered_setting.numbered_setting.Goals as goal

pub returns-in_ok-value-in-ScriptInterpreter : goal.returns-in_ok-value-in-ScriptInterpreter
returns-in_ok-value-in-ScriptInterpreter c =
    let old = expression_interpreter_view c.in-ScriptInterpreter.value in
    let new = expression_interpreter_view c.in_ok-value-in-ScriptInterpreter.value in
    let name = c.name.ensures in
    let made = c.of_interpreter.ensures.setting in
    let copied = c.in_ok-value-in-ScriptInterpreter.ensures in
    ⊎_elim (λ e. command_copied ScriptInterpreter (λ v i. refl) (λ v. refl) old new (ap setting_view e) name made copied)
    (⊎_elim (λ e. command_copied Shell (λ v i. refl) (λ v. refl) old new (ap setting_view e) name made copied)
    (λ e. command_copied WindowsShell (λ v i. refl) (λ v. refl) old new (ap setting_view e) name made copied)) c.in-ScriptInterpreter.is
