use Rattle.std.proofs.Common.{◌≡◌, ◌∙◌, ap, sym}
use Rattle.just_syntax.specs.Plain.{ScriptInterpreter, Shell, WindowsShell}
use Rattle.just_syntax.specs.Prelude.{setting_view}
use Rattle.just_syntax.specs.declared.setting.Setting.{Setting}
use Rattle.just_syntax.specs.declared.setting.Setting.TheVariants as settings
use Rattle.just_syntax.proofs.Copies.{interpreter_copied, made_of_copy}
use Rattle.just_syntax.proofs.setting.SettingClone.clone.Goals as goal

pub returns-in-ScriptInterpreter : goal.returns-in-ScriptInterpreter
returns-in-ScriptInterpreter c =
    let keeps = λ (s : Setting). setting_view s ≡ setting_view c.args.self.now in
    let copy = c.clone-in-ScriptInterpreter in
    let made = c.map-in-ScriptInterpreter in
    record {
      cases = made_of_copy _ keeps settings.ScriptInterpreter copy.result made.result copy.ensures.cases made.ensures.cases
          (λ i copied. ap ScriptInterpreter (interpreter_copied c.in-ScriptInterpreter.value i copied.0.0 copied.1) ∙ sym
          (ap setting_view c.in-ScriptInterpreter.is))
          (λ e none. none);
    }

pub returns-in-Shell : goal.returns-in-Shell
returns-in-Shell c =
    let keeps = λ (s : Setting). setting_view s ≡ setting_view c.args.self.now in
    let copy = c.clone-in-Shell in
    let made = c.map-in-Shell in
    record {
      cases = made_of_copy _ keeps settings.Shell copy.result made.result copy.ensures.cases made.ensures.cases
          (λ i copied. ap Shell (interpreter_copied c.in-Shell.value i copied.0.0 copied.1) ∙ sym (ap setting_view c.in-Shell.is))
          (λ e none. none);
    }

pub returns-in-WindowsShell : goal.returns-in-WindowsShell
returns-in-WindowsShell c =
    let keeps = λ (s : Setting). setting_view s ≡ setting_view c.args.self.now in
    let copy = c.clone-in-WindowsShell in
    let made = c.map-in-WindowsShell in
    record {
      cases = made_of_copy _ keeps settings.WindowsShell copy.result made.result copy.ensures.cases made.ensures.cases
          (λ i copied. ap WindowsShell (interpreter_copied c.in-WindowsShell.value i copied.0.0 copied.1) ∙ sym (ap setting_view c.in-WindowsShell.is))
          (λ e none. none);
    }
