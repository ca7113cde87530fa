use Rattle.std.proofs.Common.{map, string_bytes, take}
use Rattle.std.specs.Fmt.{HasWrittenStyled, IsFlush}
use Rattle.just_host.specs.Prelude.{spaced}
use Rattle.just_host.proofs.printed.write_spaced.Given as goal

-- the texts so far
abbrev pub invariant-loop-text : goal.invariant-loop-text
invariant-loop-text g l =
    IsFlush l.initial.f → HasWrittenStyled g.W.Write.write_str_gives l.initial.f (spaced (map string_bytes (take l.text-index l.texts))) l.f
