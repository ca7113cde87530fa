use Rattle.std.proofs.Common.{codes, take}
use Rattle.std.specs.Fmt.{HasWrittenStyled, IsFlush}
use Rattle.std.specs.List.{join_by}
use Rattle.just_value.specs.Prelude.{quoted}
use Rattle.just_value.proofs.value.ValueDisplay.fmt.Given as goal

-- the elements so far, joined
abbrev pub invariant-loop-i : goal.invariant-loop-i
invariant-loop-i g l =
    IsFlush l.initial.f → HasWrittenStyled g.W.Write.write_str_gives l.initial.f (join_by quoted (codes ", ") (take l.i l.elements)) l.f
