use Rattle.std.proofs.Common.{ap, map, reverse, sym}
use Rattle.just_expression_parser.specs.Parsed.{machine_frame_view}
use Rattle.just_expression_parser.proofs.parse.read.Goals as goal

-- no frame waits at first
pub returns-in-Ok-clause-exact : goal.returns-in-Ok-clause-exact
returns-in-Ok-clause-exact c =
    let alone = ap (λ fs. reverse (map machine_frame_view fs)) c.new-2.ensures.items in
    rw c.rest.ensures (sym (rw (alone, c.new.ensures) at (c.in-Ok.ensures.ok alone)))

pub returns-clause-refused : goal.returns-clause-refused
returns-clause-refused c =
    let alone = ap (λ fs. reverse (map machine_frame_view fs)) c.new-2.ensures.items in
    rw (alone, c.new.ensures) at c.in-Err.ensures.refused
