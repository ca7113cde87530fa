use Rattle.std.proofs.Common.{◌≡◌, ◌++◌, map}
use Rattle.std.specs.Iterator.Adapters.{rev_source}
use Rattle.std.specs.Slice.Iter.{iter_rest}
use Rattle.just_host.specs.Prelude.{change_view, frame_view, frames_exports}
use Rattle.just_host.proofs.exports.add_frames.Given as goal

-- the changes added so far, and the exports of the remaining frames, are the exports of all frames
abbrev pub invariant-loop-frame : goal.invariant-loop-frame
invariant-loop-frame l =
    map change_view l.changes.items ++ frames_exports (map (λ frame. frame_view frame.now) (iter_rest (rev_source l.frame-iterator)))
    ≡ map change_view l.initial.changes.items ++ frames_exports (map (λ frame. frame_view frame.now) l.frames)
