use Rattle.std.proofs.Common.{◌≡◌, ◌++◌, take, drop, map, length}
use Rattle.just_value.proofs.combination.all_extended.Given as goal

-- the first are extended, and the others as they were
abbrev pub invariant-loop-i : goal.invariant-loop-i
invariant-loop-i l = record {
  same : length l.xs.items ≡ length l.fn.xs.items;
  so_far : l.xs.items ≡ map (λ x. (x ++ l.fn.separator) ++ l.fn.y) (take l.i l.fn.xs.items) ++ drop l.i l.fn.xs.items;
}
