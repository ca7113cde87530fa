use Rattle.std.proofs.Common.{◌∙◌, sym}
use Rattle.std.proofs.lemmas.List.{length-map}
use Rattle.just_expression.specs.Prelude.{function_view, name_view, parameter_view}
use Rattle.just_expression.proofs.Callees.{miscounted_is}
use Rattle.just_expression.proofs.callee.calls_left_inside.Goals as goal

pub returns-then-arguments-len-clause-refused : goal.returns-then-arguments-len-clause-refused
returns-then-arguments-len-clause-refused c p =
    let parameters = c.args.function.now.parameters in
    let count = length-map parameters.items parameter_view in
    miscounted_is p (name_view c.args.name.now) (function_view c.args.function.now) _ _ _ c.if-calls_left-eq0.false
    (λ same. c.if-arguments-len.true (same ∙ (count ∙ sym (c.len.ensures ∙ parameters.ok.0)))) c.error_at.ensures
