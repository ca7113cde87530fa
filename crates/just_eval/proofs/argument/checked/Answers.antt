use Rattle.std.proofs.Common.{ap, sym, string_bytes, ◌∙◌, Err}
use Rattle.just_eval.specs.Prelude.{Refused, judged, recipe_parameter_view, verdict_view}
use Rattle.just_value.specs.Refusal.{Check}
use Rattle.just_eval.proofs.Judged.{judged_by}
use Rattle.just_eval.proofs.argument.checked.Goals as goal

pub returns-in-Ok : goal.returns-in-Ok
returns-in-Ok g c =
    judged_by g.C.Fn _ _ _ _ _ _ c.check.ensures
    (sym (ap (λ answer. judged (recipe_parameter_view c.args.parameter.now) c.args.value (verdict_view answer)) c.in-Ok.is))

pub returns-in-Err-Refused : goal.returns-in-Err-Refused
returns-in-Err-Refused g c =
    judged_by g.C.Fn _ _ _ _ _ _ c.check.ensures
    (ap (λ lexeme. Refused (Check lexeme.now (string_bytes c.in-Err-Refused.message))) c.lexeme.ensures
    ∙ sym (ap (λ answer. judged (recipe_parameter_view c.args.parameter.now) c.args.value (verdict_view answer)) c.in-Err-Refused.is
    ∙ ap (λ fault. judged (recipe_parameter_view c.args.parameter.now) c.args.value (verdict_view (Err fault))) c.in-Err-Refused.field-0-is))

pub returns : goal.returns
returns g c =
    judged_by g.C.Fn _ _ _ _ _ _ c.check.ensures
    (sym (ap (λ answer. judged (recipe_parameter_view c.args.parameter.now) c.args.value (verdict_view answer)) c.in-Err-OutOfMemory.is
    ∙ ap (λ fault. judged (recipe_parameter_view c.args.parameter.now) c.args.value (verdict_view (Err fault))) c.in-Err-OutOfMemory.field-0-is))
