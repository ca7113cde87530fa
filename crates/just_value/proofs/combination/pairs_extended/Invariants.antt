use Rattle.std.proofs.Common.{◌≡◌, ◌++◌, take, drop, length}
use Rattle.just_value.specs.Prelude.{paired}
use Rattle.just_value.proofs.combination.pairs_extended.Given as goal

-- the first are extended, and the others as they were
abbrev pub invariant-loop-i : goal.invariant-loop-i
invariant-loop-i l = record {
  same : length l.xs.items ≡ length l.fn.xs.items;
  so_far : l.xs.items ≡ paired l.fn.separator (take l.i l.fn.xs.items) (take l.i l.fn.ys) ++ drop l.i l.fn.xs.items;
}
