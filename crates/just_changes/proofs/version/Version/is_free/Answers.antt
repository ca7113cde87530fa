use Rattle.std.proofs.Common.{◌∙◌, ap, sym, string_bytes, option_map}
use Rattle.just_changes.proofs.Parts.{else_pair, then_pair}
use Rattle.just_changes.proofs.Versions.{none_found, seen_after}
use Rattle.just_changes.proofs.version.Version.is_free.Goals as goal

pub returns-then-is_none : goal.returns-then-is_none
returns-then-is_none c =
    then_pair c.is_none.result c.is_none-then-is_none.result c.if-is_none.true (none_found string_bytes c.get.result _ c.is_none.result c.is_none.ensures
    (ap (option_map string_bytes) (sym c.get.ensures.value) ∙ seen_after string_bytes c.get.result))
    (none_found (λ v. v) c.value.result _ c.is_none-then-is_none.result c.is_none-then-is_none.ensures (sym c.value.ensures))

pub returns-else-is_none : goal.returns-else-is_none
returns-else-is_none c =
    else_pair c.is_none.result c.if-is_none.false (none_found string_bytes c.get.result _ c.is_none.result c.is_none.ensures
    (ap (option_map string_bytes) (sym c.get.ensures.value) ∙ seen_after string_bytes c.get.result))
