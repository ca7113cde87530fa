use Rattle.std.proofs.lemmas.Result.{err_from_is_err_and}
use Rattle.std.proofs.Common.{◌≡◌, ◌∙◌, sym, ap, Ok, Err, Some, None, option_map, string_bytes, ◌∷◌, [], option_copied}
use Rattle.just_builtins.specs.Prelude.{entry, pairs_view, variable_reply}
use Rattle.just_builtins.specs.declared.call_fault.CallFault.TheVariants.{OutOfMemory}
use Rattle.just_builtins.proofs.Calls.{unasked}
use Rattle.just_builtins.proofs.Variables.{asked_variable, entry_is, from_dotenv}
use Rattle.just_builtins.proofs.environment.variable.Goals as goal

pub returns-in_err-from_text-in-Some : goal.returns-in_err-from_text-in-Some
returns-in_err-from_text-in-Some g c = λ shown.
    let p = err_from_is_err_and c.from_residual.result c.from_residual.ensures.1 in
    rw (p.1, p.2) (λ rest. unasked shown _ (Err OutOfMemory) tt)

pub returns-in_ok-from_text-in-Some : goal.returns-in_ok-from_text-in-Some
returns-in_ok-from_text-in-Some g c = λ shown rest.
    let dotenv = pairs_view c.args.dotenv.now in
    let found : entry dotenv c.args.key.now ≡ Some (string_bytes c.in-Some.text.now) =
    entry_is c.args.key.now c.args.dotenv.now.entries ∙ ap (option_map string_bytes) (sym c.get.ensures.value ∙ ap option_copied c.in-Some.is) in
    let said = from_dotenv dotenv c.args.key.now rest _ _ found (c.in_ok-from_text-in-Some.ensures ∙ ap (λ text. text ∷ []) c.deref.ensures) in
    (unasked shown (variable_reply dotenv c.args.key.now rest) (Ok c.in_ok-from_text-in-Some.field-0) said).0

pub returns-in-None : goal.returns-in-None
returns-in-None g c = λ shown.
    let dotenv = pairs_view c.args.dotenv.now in
    let none : entry dotenv c.args.key.now ≡ None =
    entry_is c.args.key.now c.args.dotenv.now.entries ∙ ap (option_map string_bytes) (sym c.get.ensures.value ∙ ap option_copied c.in-None.is) in
    asked_variable g.H.Host.step shown dotenv c.args.key.now _ _ none c.text-answer.ensures c.variable_answered.ensures
