use Rattle.std.proofs.Common.{ap, map, ◌∙◌}
use Rattle.std.proofs.lemmas.List.{map_push}
use Rattle.just_syntax.specs.View.{view}
use Rattle.just_expression_parser.proofs.machine.Machine.after_element.Goals as goal

pub returns-in-Ok : goal.returns-in-Ok
returns-in-Ok c =
    c.more_elements.ensures (map view c.args.elements.items) (view c.args.element)
    (ap (map view) c.in-Ok.ensures.ok ∙ map_push view c.args.elements.items c.args.element)

pub returns-in-Err : goal.returns-in-Err
returns-in-Err c = (tt, rw c.in-Err.ensures.refused tt)
