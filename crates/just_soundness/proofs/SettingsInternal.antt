-- Settings whose variables are bound or open meet no refusal that is Internal.
use Rattle.std.proofs.Common.{List, [], ◌∷◌}
use Rattle.just_syntax.specs.Plain as plain
use Rattle.just_syntax.specs.Plain.{Token, Expr, Interpreter, Set}
use Rattle.just_syntax.proofs.Lists.{all_front, all_after}
use Rattle.just_value.specs.Value.{Value}
use Rattle.just_value.specs.Outcome.{Outcome, Gave, Refused, Stopped, and_then}
use Rattle.just_host.specs.Settings.{Settings}
use Rattle.just_meaning.specs.Internal.{IsNotInternal}
use Rattle.just_meaning.specs.ResolvedOn.{AllResolvedOn, IsResolvedOn, interpreter_expressions, set_expressions, setting_expressions}
use Rattle.just_meaning.specs.Settings.{command_of, elements, interpreter, with_setting, with_settings}
use Rattle.just_meaning.specs.Stage.{StageState, const_value}
use Rattle.just_soundness.proofs.Constants.{const_refused}
use Rattle.just_soundness.proofs.ConstInternal.{IsOther, resolved_const, shut_other}
use Rattle.just_soundness.proofs.Here.{text_not}

-- continues with a value
pub then_not : {A B : Type 0} (w : Outcome A) (go : A → Outcome B) → IsNotInternal w → ((a : A) → IsNotInternal (go a)) → IsNotInternal (and_then w go)
then_not (Gave a) go h k = k a
then_not (Refused r) go h k = h
then_not Stopped go h k = tt

command_not : (setting : Token) (v : Value) → IsNotInternal (command_of setting v)
command_not setting [] = λ none. none
command_not setting (command ∷ arguments) = tt

module _ (s : StageState) where
  pub value_not : (e : Expr) → IsResolvedOn s e → IsNotInternal (const_value s e)
  value_not e h = const_refused IsOther s.is_open _ (shut_other s.is_open) (resolved_const s e h)

  elements_not : (es : List Expr) → AllResolvedOn s es → IsNotInternal (elements (const_value s) es)
  elements_not [] h = tt
  elements_not (e ∷ es) h = then_not (const_value s e) _ (value_not e h.0) (λ v. then_not (elements (const_value s) es) _ (elements_not es h.1) (λ w. tt))

  pub interpreter_not : (setting : Token) (i : Interpreter Expr) → AllResolvedOn s (interpreter_expressions i)
      → IsNotInternal (interpreter (const_value s) setting i)
  interpreter_not setting i h =
      then_not (elements (const_value s) (interpreter_expressions i)) _ (elements_not (interpreter_expressions i) h) (λ v. command_not setting v)

  setting_not : (settings : Settings) (name : Token) (x : plain.Setting) → AllResolvedOn s (setting_expressions x)
      → IsNotInternal (with_setting (const_value s) settings name x)
  setting_not settings name (plain.DotenvCommand e) h = then_not (const_value s e) _ (value_not e h.0) (λ v. tt)
  setting_not settings name (plain.DotenvFilename e) h = then_not (const_value s e) _ (value_not e h.0) (λ v. tt)
  setting_not settings name (plain.DotenvPath e) h = then_not (const_value s e) _ (value_not e h.0) (λ v. tt)
  setting_not settings name (plain.ScriptInterpreter i) h = then_not (interpreter (const_value s) name i) _ (interpreter_not name i h) (λ v. tt)
  setting_not settings name (plain.Shell i) h = then_not (interpreter (const_value s) name i) _ (interpreter_not name i h) (λ v. tt)
  setting_not settings name (plain.Tempdir e) h =
      then_not (and_then (const_value s e) _) _ (then_not (const_value s e) _ (value_not e h.0) (λ v. text_not _ v)) (λ v. tt)
  setting_not settings name (plain.WindowsShell i) h = then_not (interpreter (const_value s) name i) _ (interpreter_not name i h) (λ v. tt)
  setting_not settings name (plain.WorkingDirectory e) h =
      then_not (and_then (const_value s e) _) _ (then_not (const_value s e) _ (value_not e h.0) (λ v. text_not _ v)) (λ v. tt)
  setting_not settings name _ h = tt

  pub settings_not : (settings : Settings) (sets : List Set) → AllResolvedOn s (set_expressions sets)
      → IsNotInternal (with_settings (const_value s) settings sets)
  settings_not settings [] h = tt
  settings_not settings (x ∷ xs) h =
      then_not (with_setting (const_value s) settings x.name x.value) _
      (setting_not settings x.name x.value (all_front (IsResolvedOn s) (setting_expressions x.value) (set_expressions xs) h))
      (λ next. settings_not next xs (all_after (IsResolvedOn s) (setting_expressions x.value) (set_expressions xs) h))
