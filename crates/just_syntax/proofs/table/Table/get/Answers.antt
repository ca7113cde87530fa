use Rattle.std.proofs.Common.{◌∙◌, ap}
use Rattle.just_syntax.specs.Prelude.{value_at}
use Rattle.just_syntax.proofs.Kept.{value_at_kept}
use Rattle.just_syntax.proofs.table.Table.get.Goals as goal

pub returns : goal.returns
returns g c =
    let key = g.V.Keyed.key_text in
    c.get.ensures.value
    ∙ value_at_kept key c.args.key.now c.self.inside.values.entries c.self.invariant
    ∙ ap (value_at key c.args.key.now) c.self.view_is
