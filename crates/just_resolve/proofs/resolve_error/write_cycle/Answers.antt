use Rattle.std.proofs.Common.{◌≡◌, ◌<◌, ◌≤◌, ◌∷◌, [], List, length, map, get_or, refl, arith}
use Rattle.std.proofs.Output.{has_written_styled_of_eq}
use Rattle.just_syntax.specs.declared.name.Name.{Name}
use Rattle.just_resolve.specs.Prelude.{cycle_text, name_view}
use Rattle.just_resolve.specs.Resolve.{dependent_text}
use Rattle.just_resolve.proofs.resolve_error.write_cycle.Goals as goal

cycle_of_one : (names : List Name) (d : Name) → 1 ≤ length names → length names < 2
    → dependent_text (name_view (get_or names 0 d)) ≡ cycle_text (map name_view names)
cycle_of_one [] d some few = absurd (omega arith)
cycle_of_one (first ∷ []) d some few = refl
cycle_of_one (first ∷ second ∷ rest) d some few = absurd (omega arith)

pub returns-in-len1 : goal.returns-in-len1
returns-in-len1 g c = λ flush ok.
    has_written_styled_of_eq g.W.Write.write_str_gives _ _ _ _ (cycle_of_one c.args.names.now _ c.in-len1.len_at_least c.in-len1.len_below)
    (c.write_unstyled.ensures.styled flush ok)
