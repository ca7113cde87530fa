use Rattle.std.proofs.Common.{◌≡◌, ◌∙◌, ◌∷◌, Bor, List, ap, map}
use Rattle.std.proofs.lemmas.Result.{on_ok_weaker}
use Rattle.std.specs.Option.{option_or}
use Rattle.just_value.specs.declared.frame.Frame as declared
use Rattle.just_resolve.specs.Prelude.{Frame, Frames, bound_names, first_named, frame_names, frame_view, frames_view, number_in}
use Rattle.just_resolve.proofs.Lookups.{looked_more}
use Rattle.just_resolve.proofs.names.add_scope.Goals as goal

pub returns : goal.returns
returns c =
    let view = λ (f : Bor declared.Frame). frame_view f.now in
    let others = map view c.in_ok-frames.frames.items in
    let own = frame_view c.frame.result.now in
    on_ok_weaker c.add_frames.result (λ added t.
    let old = number_in c.args.all.now t in
    let frames : option_or old (first_named (bound_names (own ∷ others)) t) ≡ option_or old (first_named (bound_names (frames_view c.args.outer.now)) t) =
    ap (λ (fs : Frames). option_or old (first_named (bound_names fs) t)) (ap (λ (f : Frame). f ∷ others) c.frame.ensures ∙ c.in_ok-frames.ensures) in
    added t
    ∙ ap (λ (fs : List (Bor declared.Frame)). option_or (number_in c.add_frame.new.all t) (first_named (bound_names (map view fs)) t)) c.deref.ensures.value
    ∙ looked_more old (number_in c.add_frame.new.all t) (frame_names own) (bound_names others) t (c.in_ok-add_frame.ensures t)
    ∙ frames) c.add_frames.ensures
