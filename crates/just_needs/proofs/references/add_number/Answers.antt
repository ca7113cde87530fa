use Rattle.just_needs.proofs.Members.{number_added, option_added}
use Rattle.just_needs.proofs.references.add_number.Goals as goal

pub returns-in_ok-insert : goal.returns-in_ok-insert
returns-in_ok-insert c = λ n.
    option_added c.args.number c.in-Some.number n _ c.in-Some.is
    (number_added c.args.variables.now c.insert.new.self c.in-Some.number c.in_ok-insert.ensures.updates.0 n)
