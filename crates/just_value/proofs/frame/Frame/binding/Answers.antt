use Rattle.std.proofs.Common.{sym, ◌∙◌}
use Rattle.std.proofs.lemmas.List.{nil_from_length}
use Rattle.just_value.proofs.Framed.{past_first}
use Rattle.just_value.proofs.frame.Frame.binding.Goals as goal

-- the number is less than the first
pub returns-in-Some : goal.returns-in-Some
returns-in-Some c =
    let none = nil_from_length c.self.inside.places.entries (c.is_empty.ensures.0 c.if-is_empty.true) in
    let view = rw none at c.self.view_is in
    sym (rw (← view) (past_first c.self.inside.bindings.items (rw none at c.self.invariant) c.args.number c.in-Some.first.now
    (rw c.deref.ensures.value at c.in-Some.ensures.item.3.1) (sym c.lt.ensures ∙ c.if-lt.true)))
