use Rattle.std.proofs.Common.{◌∙◌, ◌+◌, ap, sym, option_map}
use Rattle.just_syntax.specs.Prelude.{recipe_parameter_view}
use Rattle.just_run.proofs.Counted.{most_more, most_none, raised_more, raised_none}
use Rattle.just_run.proofs.arguments.most.Goals as goal

pub loop-parameter-init : goal.loop-parameter-init
loop-parameter-init c = sym (raised_none _)

pub returns-then-is_variadic : goal.returns-then-is_variadic
returns-then-is_variadic c =
    let i = c.loop-parameter.parameter-index in
    let none = most_none recipe_parameter_view c.args.parameters.now i c.parameter-item.result c.loop-parameter-test.true c.parameter-item.is
    (sym c.is_variadic.ensures ∙ c.if-is_variadic.true) in
    sym (c.loop-parameter.invariant ∙ ap (option_map (λ n. i + n)) none)

pub loop-parameter-preserved : goal.loop-parameter-preserved
loop-parameter-preserved c =
    let i = c.loop-parameter.parameter-index in
    let more = most_more recipe_parameter_view c.args.parameters.now i c.parameter-item.result c.loop-parameter-test.true c.parameter-item.is
    (sym c.is_variadic.ensures ∙ c.if-is_variadic.false) in
    c.loop-parameter.invariant ∙ (ap (option_map (λ n. i + n)) more ∙ raised_more i _)
