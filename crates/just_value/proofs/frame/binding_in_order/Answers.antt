use Rattle.std.proofs.Common.{sym, ◌∙◌}
use Rattle.just_value.proofs.Framed.{bound_missing}
use Rattle.just_value.proofs.Placed.{found_there, lent}
use Rattle.just_value.proofs.frame.binding_in_order.Goals as goal

pub returns-in-Ok : goal.returns-in-Ok
returns-in-Ok c rising =
    let bindings = c.args.bindings.now in
    lent bindings c.in-Ok.at c.get.result c.get.ensures.lookup ∙ sym (found_there bindings rising c.args.number c.in-Ok.at (c.in-Ok.ensures rising))

pub returns-in-Err : goal.returns-in-Err
returns-in-Err c rising = sym (bound_missing c.args.bindings.now rising c.args.number c.in-Err.field-0 (c.in-Err.ensures rising))
