use Rattle.std.proofs.Common.{◌+◌, ◌-◌, vec_len}
use Rattle.std.specs.Io.KnownBytes.{Consumes}
use Rattle.just_bench.specs.Prelude.{LIMIT}
use Rattle.just_bench.proofs.stream.read_case.Given as goal

-- the bytes so far are those already taken from the reader
abbrev pub invariant-loop-buffer : goal.invariant-loop-buffer
invariant-loop-buffer g l = Consumes (g.R.Read.remaining l.fn.reader) (g.R.Read.remaining l.reader) l.bytes.items

abbrev pub decreases-loop-buffer : goal.decreases-loop-buffer
decreases-loop-buffer g l = LIMIT + 1 - vec_len l.bytes
