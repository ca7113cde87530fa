use Rattle.std.proofs.Common.{◌≡◌, ◌++◌, map}
use Rattle.just_value.specs.Prelude.{enclosing_view, frame_view}
use Rattle.just_value.specs.declared.scope.Scope.{out-Scope}
use Rattle.just_value.proofs.scope.Scope.outer_frames.Given as goal

-- the frames so far, and those of the scopes that are left, are all outer frames
abbrev pub invariant-loop-next : goal.invariant-loop-next
invariant-loop-next l = map (λ f. frame_view f.now) l.frames.items ++ enclosing_view l.next ≡ enclosing_view (out-Scope l.self).outer
