use Rattle.std.proofs.Common.{subst}
use Rattle.just_syntax.specs.Prelude.{IsInOrder}
use Rattle.just_syntax.proofs.Kept.{in_order}
use Rattle.just_syntax.proofs.table.Table.iter.Goals as goal

pub returns-clause-in_order : goal.returns-clause-in_order
returns-clause-in_order g c =
    let key = g.V.Keyed.key_text in
    subst (IsInOrder key) c.self.view_is (in_order key c.self.inside.values.entries c.self.invariant c.values.ensures.ordered)
