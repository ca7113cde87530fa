use Rattle.std.proofs.Common.{map, take}
use Rattle.std.specs.Fmt.{HasWrittenStyled, IsFlush}
use Rattle.std.specs.List.{flat_map}
use Rattle.just_host.specs.Prelude.{line_of, setting_entry_view}
use Rattle.just_host.proofs.setting_value.write_entries.Given as goal

-- the lines so far
abbrev pub invariant-loop-name : goal.invariant-loop-name
invariant-loop-name g l =
    IsFlush l.initial.f
    → HasWrittenStyled g.W.Write.write_str_gives l.initial.f (flat_map line_of (map setting_entry_view (take l.name-index l.entries))) l.f
