use Rattle.std.proofs.Common.{◌≡◌}
use Rattle.just_value.specs.Prelude.{enclosing_view, innermost}
use Rattle.just_value.proofs.scope.binding_in.Given as goal

-- the frames so far do not bind the number
abbrev pub invariant-loop-next : goal.invariant-loop-next
invariant-loop-next l = innermost l.number (enclosing_view l.next) ≡ innermost l.number (enclosing_view l.scope)
