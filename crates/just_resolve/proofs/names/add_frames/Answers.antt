use Rattle.std.proofs.Common.{◌∙◌, ◌+◌, Bor, ap, drop, map, sym}
use Rattle.std.specs.Option.{option_or}
use Rattle.just_syntax.proofs.Lists.{rest_from}
use Rattle.just_value.specs.declared.frame.Frame as declared
use Rattle.just_resolve.specs.Prelude.{Frames, bound_names, first_named, frame_names, frame_view, number_in}
use Rattle.just_resolve.proofs.Lookups.{looked_more}
use Rattle.just_resolve.proofs.names.add_frames.Goals as goal

pub loop-frame-preserved : goal.loop-frame-preserved
loop-frame-preserved c = λ t.
    let frames = c.args.frames.now in
    let i = c.loop-frame.frame-index in
    let item = c.frame-item.result in
    let view = λ (f : Bor declared.Frame). frame_view f.now in
    let others = map view (drop (i + 1) frames) in
    looked_more (number_in c.loop-frame.all t) (number_in c.add_frame.new.all t) (frame_names (view item)) (bound_names others) t (c.in_ok-add_frame.ensures t)
    ∙ ap (λ (fs : Frames). option_or (number_in c.loop-frame.all t) (first_named (bound_names fs) t))
    (sym (rest_from view frames i item c.loop-frame-test.true c.frame-item.is))
    ∙ c.loop-frame.invariant t
