use Rattle.std.proofs.Common.{IfSome, take, length}
use Rattle.std.specs.Fmt.{HasWrittenStyled, IsFlush}
use Rattle.just_value.specs.Prelude.{listed_from, outputs}
use Rattle.just_value.proofs.list.ListDisplay.fmt.Given as goal

abbrev pub invariant-loop-i : goal.invariant-loop-i
invariant-loop-i g l = IsFlush l.initial.f
    → IfSome (outputs g.T.Display.output (take l.i l.items))
    (λ texts. HasWrittenStyled g.W.Write.write_str_gives l.initial.f (listed_from l.self.conjunction.now (length l.items) 0 texts) l.f)
