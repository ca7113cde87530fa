use Rattle.std.proofs.Common.{map, ◌∙◌}
use Rattle.just_syntax.specs.Prelude.{assignment_view, number_named}
use Rattle.just_syntax.proofs.Names.{is_had}
use Rattle.just_syntax.proofs.variables.references_of.Goals as goal

pub returns-clause-refers : goal.returns-clause-refers
returns-clause-refers c = λ n.
    let in_set = rw c.deref.ensures.value at (c.in_ok-set_of.ensures n) in
    in_set ∙ is_had (number_named (map assignment_view c.args.assignments.now)) (map (λ name. name.now) c.args.names.now) c.in_ok-numbers.numbers.items
    c.in_ok-numbers.ensures.numbers n
