use Rattle.std.proofs.Common.{◌≡◌, ◌++◌, map, take, drop}
use Rattle.just_text.specs.Prelude.{exchanged}
use Rattle.just_text.proofs.replace.all_exchanged.Given as goal

-- the bytes so far are exchanged, and the others as they were
abbrev pub invariant-loop-byte : goal.invariant-loop-byte
invariant-loop-byte l = l.byte-items ≡ map (exchanged l.from l.to) (take l.byte-index l.fn.bytes.items) ++ drop l.byte-index l.fn.bytes.items
