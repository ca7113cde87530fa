use Rattle.std.proofs.Common.{ap, map, ◌∙◌}
use Rattle.just_resolve.specs.Prelude.{name_number, numbered_expression, view}
use Rattle.just_recipe.proofs.Copying.{copied_more}
use Rattle.just_recipe.proofs.numbered_setting.add_numbered.Goals as goal

pub loop-expression-preserved : goal.loop-expression-preserved
loop-expression-preserved c =
    ap (map view) c.in_ok-push.ensures.ok
    ∙ copied_more view view
    (numbered_expression (name_number c.args.names.now)) c.args.expressions.now c.loop-expression.expression-index _ c.expression-item.result
    c.args.copies.now.items c.loop-expression.copies.items c.in_ok-numbered.field-0 c.loop-expression-test.true c.expression-item.is
    c.loop-expression.invariant c.in_ok-numbered.ensures
