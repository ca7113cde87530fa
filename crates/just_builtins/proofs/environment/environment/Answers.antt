use Rattle.std.proofs.Common.{◌∙◌, ap, Ok, Bor, option_map}
use Rattle.std.proofs.lemmas.Result.{err_from_is_err_and}
use Rattle.just_builtins.specs.Prelude.{Value, function_context_view}
use Rattle.just_builtins.proofs.Variables.{all_ended, all_set, all_unset}
use Rattle.just_builtins.proofs.environment.environment.Goals as goal

pub returns-in_err-value : goal.returns-in_err-value
returns-in_err-value g c = λ shown.
    let p = err_from_is_err_and c.from_residual.result c.from_residual.ensures.1 in
    all_ended g.H.Host.step shown (function_context_view c.args.context.now) (option_map (λ (value : Bor Value). value.now) c.args.default) c.args.host.now _
    c.args.keys.now _ c.elements.ensures _ (c.first_set.ensures shown) _ _ _ c.in_err-value.was p.1 p.2

pub returns-in-Some : goal.returns-in-Some
returns-in-Some g c = λ shown.
    all_set g.H.Host.step shown (function_context_view c.args.context.now) (option_map (λ (value : Bor Value). value.now) c.args.default) c.args.host.now _
    c.args.keys.now _ c.elements.ensures _ (c.first_set.ensures shown) _ (c.in_ok-value.was ∙ ap Ok c.in-Some.is)

pub returns-in-None : goal.returns-in-None
returns-in-None g c = λ shown.
    all_unset g.H.Host.step shown (function_context_view c.args.context.now) (option_map (λ (value : Bor Value). value.now) c.args.default) c.args.host.now _
    c.args.keys.now _ c.elements.ensures _ (c.first_set.ensures shown) _ _ c.elements-in-None.ensures
    (c.in_ok-value.was ∙ ap Ok c.in-None.is) c.unset.ensures
