use Rattle.std.proofs.Common.{◌∙◌}
use Rattle.just_value.proofs.Placed.{lent, shown_by_place}
use Rattle.just_value.proofs.frame.binding_by_place.Goals as goal

-- the number has a place
pub returns-in-Some : goal.returns-in-Some
returns-in-Some c f shows =
    let bindings = c.args.bindings.now in
    lent bindings c.in-Some.at.now c.get-in-Some.result c.get-in-Some.ensures.lookup
    ∙ shown_by_place f bindings c.args.number c.args.places.now.entries _ shows c.in-Some.ensures.value

-- the number has no place
pub returns-in-None : goal.returns-in-None
returns-in-None c f shows = shown_by_place f c.args.bindings.now c.args.number c.args.places.now.entries _ shows c.in-None.ensures.value
