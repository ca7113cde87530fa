use Rattle.std.proofs.Common.{◌≡◌, ◌+◌, ◌==◌, drop}
use Rattle.std.specs.List.{common_prefix_len}
use Rattle.just_syntax.proofs.unindented.common_start.Given as goal

-- the bytes so far are common
abbrev pub invariant-loop-i : goal.invariant-loop-i
invariant-loop-i l = l.i + common_prefix_len (λ x y. x == y) (drop l.i l.left) (drop l.i l.right) ≡ common_prefix_len (λ x y. x == y) l.left l.right
