use Rattle.std.proofs.Common.{◌≡◌, ◌++◌, [], ◌∷◌, Bor, map, sym, ap, ◌∙◌}
use Rattle.std.specs.Iterator.Adapters.{rev_source}
use Rattle.std.specs.Slice.Iter.{iter_rest}
use Rattle.std.proofs.lemmas.List.{append_assoc, map-append}
use Rattle.just_host.specs.Prelude.{change_view, frame_exports, frame_view, frames_exports}
use Rattle.just_value.specs.declared.frame.Frame.{Frame}
use Rattle.just_host.proofs.Changes.{frames_exports-last}
use Rattle.just_host.proofs.exports.add_frames.Goals as goal

-- the next frame is the last of the remaining ones
pub loop-frame-preserved : goal.loop-frame-preserved
loop-frame-preserved c =
    let view = λ (frame : Bor Frame). frame_view frame.now in
    let frames = iter_rest (rev_source c.next.new.self) in
    let left = map view frames in
    let next = c.in-Some.frame.now in
    let so_far = map change_view c.loop-frame.changes.items in
    let there : frames_exports (map view (iter_rest (rev_source c.loop-frame.frame-iterator))) ≡ frame_exports (view next) ++ frames_exports left =
    ap (λ fs. frames_exports (map view fs)) c.in-Some.ensures.steps ∙ ap frames_exports (map-append view frames (next ∷ []))
    ∙ frames_exports-last left (view next) in
    ap (λ cs. cs ++ frames_exports left) c.in_ok-add_frame.ensures ∙ append_assoc so_far (frame_exports (view next)) (frames_exports left)
    ∙ ap (λ cs. so_far ++ cs) (sym there) ∙ c.loop-frame.invariant
