use Rattle.std.proofs.Common.{◌+◌, map, length}
use Rattle.just_resolution.specs.Prelude.{function_view, is_name_in, is_readable, texts, view}
use Rattle.just_resolution.proofs.Closure.{IsWalked, work}
use Rattle.just_resolution.proofs.admitted.first_unreadable.Given as goal

abbrev pub invariant-loop-name : goal.invariant-loop-name
invariant-loop-name l =
    IsWalked (map function_view l.functions) (view l.expression) (is_readable l.here) (is_readable l.readable) (is_name_in l.admitted) (texts l.pending.items)

-- the work of the functions not yet admitted, and the number of pending names
abbrev pub decreases-loop-name : goal.decreases-loop-name
decreases-loop-name l = work (map function_view l.functions) (is_name_in l.admitted) + length (texts l.pending.items)
