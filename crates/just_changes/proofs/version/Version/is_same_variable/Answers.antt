use Rattle.std.proofs.Common.{◌∙◌, ap, sym, string_bytes, option_map}
use Rattle.just_changes.proofs.Parts.{else_pair, same_ends, then_pair}
use Rattle.just_changes.proofs.Versions.{seen_after}
use Rattle.just_changes.proofs.version.Version.is_same_variable.Goals as goal

pub returns-then-is_same_assignment : goal.returns-then-is_same_assignment
returns-then-is_same_assignment c =
    then_pair c.is_same_assignment.result c.is_same_override.result c.if-is_same_assignment.true
    (same_ends _ _ _ _ (sym c.assignment.ensures) (sym c.assignment-2.ensures) c.is_same_assignment.ensures)
    (same_ends _ _ _ _ (ap (option_map string_bytes) (sym c.get.ensures.value) ∙ seen_after string_bytes c.get.result)
    (ap (option_map string_bytes) (sym c.get-then-is_same_assignment.ensures.value) ∙ seen_after string_bytes c.get-then-is_same_assignment.result)
    c.is_same_override.ensures)

pub returns-else-is_same_assignment : goal.returns-else-is_same_assignment
returns-else-is_same_assignment c = else_pair c.is_same_assignment.result c.if-is_same_assignment.false
    (same_ends _ _ _ _ (sym c.assignment.ensures) (sym c.assignment-2.ensures) c.is_same_assignment.ensures)
