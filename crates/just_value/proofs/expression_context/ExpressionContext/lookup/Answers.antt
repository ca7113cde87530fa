use Rattle.std.proofs.Common.{sym}
use Rattle.just_value.proofs.Named.{name_found, name_missing}
use Rattle.just_value.proofs.expression_context.ExpressionContext.lookup.Goals as goal

pub returns-in-Ok : goal.returns-in-Ok
returns-in-Ok c =
    let there = name_found c.args.self.now.bindings.items c.args.self.now.rising c.args.name.now c.in-Ok.at c.index.result.now c.in-Ok.ensures in
    cc

pub returns-in-Err : goal.returns-in-Err
returns-in-Err c = sym (name_missing c.args.self.now.bindings.items c.args.self.now.rising c.args.name.now c.in-Err.field-0 c.in-Err.ensures)
