use Rattle.std.proofs.Common.{◌≡◌, ◌+◌, drop}
use Rattle.std.specs.List.{prefix_len}
use Rattle.just_syntax.specs.Prelude.{is_gap}
use Rattle.just_syntax.proofs.unindented.indentation.Given as goal

-- the bytes so far are spaces and tabs
abbrev pub invariant-loop-i : goal.invariant-loop-i
invariant-loop-i l = l.i + prefix_len is_gap (drop l.i l.line) ≡ prefix_len is_gap l.line
