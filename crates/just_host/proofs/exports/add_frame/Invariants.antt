use Rattle.std.proofs.Common.{◌≡◌, ◌++◌, map}
use Rattle.just_host.specs.Prelude.{change_view, frame_exports, frame_view}
use Rattle.just_value.specs.View.{bindings_left, bound_view}
use Rattle.just_host.specs.Exports.{exported_among}
use Rattle.just_host.proofs.exports.add_frame.Given as goal

-- the changes added so far, and the exports of the remaining bindings, are the frame's exports
abbrev pub invariant-loop-binding : goal.invariant-loop-binding
invariant-loop-binding l = map change_view l.changes.items ++ exported_among (map bound_view (bindings_left l.binding-iterator))
    ≡ map change_view l.initial.changes.items ++ frame_exports (frame_view l.frame)
