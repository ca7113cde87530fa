use Rattle.std.proofs.Common.{◌∙◌, ap, sym, subst}
use Rattle.std.specs.Map.{values_of}
use Rattle.just_syntax.specs.Prelude.{IsKeyed, with_value}
use Rattle.just_syntax.proofs.Kept.{kept_insert, values_insert}
use Rattle.just_syntax.proofs.table.Table.insert.Goals as goal

pub invariant_of-self-2 : goal.invariant_of-self-2
invariant_of-self-2 g c =
    let key = g.V.Keyed.key_text in
    subst (IsKeyed key) (sym c.in_ok-insert.ensures.entries)
    (kept_insert key c.self.inside.values.entries c.in_ok-key.key c.args.value (c.in_ok-key.ensures.ok ∙ c.key.ensures) c.self.invariant)

pub returns-clause-ok : goal.returns-clause-ok
returns-clause-ok g c =
    let key = g.V.Keyed.key_text in
    ap values_of c.in_ok-insert.ensures.entries
    ∙ values_insert key c.self.inside.values.entries c.in_ok-key.key c.args.value (c.in_ok-key.ensures.ok ∙ c.key.ensures) c.self.invariant
    ∙ ap (λ vs. with_value key vs c.args.value) c.self.view_is
