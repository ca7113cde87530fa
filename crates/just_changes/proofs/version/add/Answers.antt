use Rattle.std.proofs.Common.{◌∙◌, sym}
use Rattle.just_changes.specs.Prelude.{assignment_view}
use Rattle.just_changes.proofs.Versions.{added_before, added_new}
use Rattle.just_changes.proofs.version.add.Goals as goal

pub returns-then-contains_key : goal.returns-then-contains_key
returns-then-contains_key c =
    added_before c.args.all.now c.args.assignment.now.number (assignment_view c.args.assignment.now) (sym c.contains_key.ensures ∙ c.if-contains_key.true)

pub returns-in-Ok : goal.returns-in-Ok
returns-in-Ok c = added_new c.args.all.now c.insert.new.self c.args.assignment.now.number c.args.assignment (sym c.contains_key.ensures
    ∙ c.if-contains_key.false) c.in-Ok.ensures.updates.0
