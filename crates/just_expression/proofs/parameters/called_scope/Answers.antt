use Rattle.std.proofs.Common.{◌∙◌, ap, [], map}
use Rattle.just_expression.specs.Prelude.{frames_view, parameter_view, parameters_innermost}
use Rattle.just_expression.proofs.InFront.{parameters_in_own}
use Rattle.just_expression.proofs.parameters.called_scope.Goals as goal

pub returns : goal.returns
returns c =
    let ps = map parameter_view c.args.parameters.now in
    c.in_ok-bind_parameters.ensures ∙ ap (λ frames. parameters_innermost frames ps c.args.values.items) c.in_ok-scope.ensures
    ∙ parameters_in_own [] (frames_view c.args.outer.now) ps c.args.values.items
