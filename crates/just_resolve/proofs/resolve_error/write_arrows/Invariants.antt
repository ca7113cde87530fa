use Rattle.std.proofs.Common.{map, take}
use Rattle.std.specs.Fmt.{HasWrittenStyled, IsFlush}
use Rattle.std.specs.List.{flat_map}
use Rattle.just_resolve.specs.Prelude.{arrow_text, name_view}
use Rattle.just_resolve.proofs.resolve_error.write_arrows.Given as goal

-- the names so far
abbrev pub invariant-loop-name : goal.invariant-loop-name
invariant-loop-name g l =
    IsFlush l.initial.f
    → HasWrittenStyled g.W.Write.write_str_gives l.initial.f (flat_map arrow_text (map name_view (take l.name-index l.names))) l.f
