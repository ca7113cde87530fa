use Rattle.std.proofs.Common.{arith, ◌≤◌, length}
use Rattle.just_syntax.specs.NumberSet.{is_member}
use Rattle.just_syntax.proofs.Members.{number_beyond}
use Rattle.just_syntax.proofs.number_set.NumberSet.insert.Goals as goal

pub returns-in_ok-is_new-clause-members : goal.returns-in_ok-is_new-clause-members
unfolding is_member
returns-in_ok-is_new-clause-members c = λ n.
    let low = c.args.self.now.low.items in
    let beyond : length low ≤ c.args.number = omega (arith, c.if-index-len.false, c.len.ensures, c.index-index.ensures) in
    number_beyond low c.args.self.now.high c.insert.new.self c.args.number beyond c.in_ok-is_new.ensures.updates.0 n
