-- The frames of a scope, and of the scope around it.
use Rattle.std.proofs.Common.{◌≡◌, ◌∷◌, map, option_map, refl, ap}
use Rattle.just_value.specs.Frames.{Frames}
use Rattle.just_value.specs.Prelude.{frame_view, frames_view, outer_frames}
use Rattle.just_value.specs.View.{frames_in, outer_frames_in, outer_view}
use Rattle.just_value.specs.declared.scope.Scope.{Scope, Scope', Held-Scope-outer, None', Some', out-Scope}

pub parent_is : (s : Scope) → option_map (λ outer. frames_view outer.now) (out-Scope s).outer ≡ outer_frames (frames_view s)
unfolding out-Scope denote.Hole.Carrier.out
parent_is (Scope' frame None') = refl
parent_is (Scope' frame (Some' pointer (Scope' inner outer))) = refl

mutual
  -- the frames that a scope holds are seen as its frames
  pub frames_viewed : (s : Scope) → map frame_view (frames_in s) ≡ frames_view s
  frames_viewed (Scope' frame outer) = ap (λ (fs : Frames). frame_view frame ∷ fs) (outer_viewed outer)

  outer_viewed : (o : Held-Scope-outer) → map frame_view (outer_frames_in o) ≡ outer_view o
  outer_viewed None' = refl
  outer_viewed (Some' pointer outer) = frames_viewed outer
