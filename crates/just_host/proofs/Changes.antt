-- The effect of a scope's exported bindings on an environment.
use Rattle.std.proofs.Common.{◌≡◌, Bool, true, false, cond, ◌||◌, List, [], ◌∷◌, ◌++◌, Option, Some, None, refl, sym, ap, ◌∙◌, bytes_eq, map}
use Rattle.std.specs.List.{list_any}
use Rattle.std.proofs.lemmas.List.{append-nil, append_assoc}
use Rattle.just_host.specs.Prelude.{ComeToTheSame, Removes, Text, after_changes, exports, frame_exports, frames_exports, framewise}
use Rattle.just_value.specs.Frames.{Frame, Frames}
use Rattle.just_host.specs.Exports.{Change, Sets, Environment, changed}

-- the outermost frame's exports come first
pub frames_exports-last : (frames : Frames) (outermost : Frame) → frames_exports (frames ++ outermost ∷ []) ≡ frame_exports outermost ++ frames_exports frames
frames_exports-last [] outermost = sym (append-nil (frame_exports outermost))
frames_exports-last (frame ∷ outer) outermost = ap (λ cs. cs ++ frame_exports frame) (frames_exports-last outer outermost)
    ∙ append_assoc (frame_exports outermost) (frames_exports outer) (frame_exports frame)

after-append : (e : Environment) (xs ys : List Change) → after_changes e (xs ++ ys) ≡ after_changes (after_changes e xs) ys
after-append e [] ys = refl
after-append e (x ∷ xs) ys = after-append (changed e x) xs ys

changed_at : (e f : Environment) (c : Change) (name : Text) → e name ≡ f name → changed e c name ≡ changed f c name
changed_at e f (Sets key text) name same = ap (λ o. cond (bytes_eq key name) (Some text) o) same
changed_at e f (Removes key) name same = ap (λ o. cond (bytes_eq key name) None o) same

-- the value of a variable after some changes depends only on its value before them
after_at : (e f : Environment) (cs : List Change) (name : Text) → e name ≡ f name → after_changes e cs name ≡ after_changes f cs name
after_at e f [] name same = same
after_at e f (c ∷ cs) name same = after_at (changed e c) (changed f c) cs name (changed_at e f c name same)

abbrev among : List Text → Text → Bool
among keys name = list_any (λ key. bytes_eq key name) keys

either : (a b : Bool) (o : Option Text) → cond b None (cond a None o) ≡ cond (a || b) None o
either true true o = refl
either true false o = refl
either false true o = refl
either false false o = refl

-- after names are removed, they are unset, and each other variable is unchanged
removed : (e : Environment) (keys : List Text) (name : Text) → after_changes e (map Removes keys) name ≡ cond (among keys name) None (e name)
removed e [] name = refl
removed e (key ∷ keys) name = removed (changed e (Removes key)) keys name ∙ either (bytes_eq key name) (among keys name) (e name)

module _ (unexports : List Text) (e : Environment) (name : Text) where
  -- a name that is exported has the same value as if no names had been removed
  kept : (frames : Frames) → among unexports name ≡ false → after_changes e (frames_exports frames) name ≡ after_changes e (framewise unexports frames) name
  kept [] other = refl
  kept (frame ∷ outer) other =
      let plain = after_changes e (frames_exports outer) in
      let by_frames = after_changes e (framewise unexports outer) in
      let cleared = after_changes by_frames (map Removes unexports) in
      let step : plain name ≡ cleared name = kept outer other ∙ sym (removed by_frames unexports name ∙ ap (λ b. cond b None (by_frames name)) other) in
      ap (λ f. f name) (after-append e (frames_exports outer) (frame_exports frame))
      ∙ after_at plain cleared (frame_exports frame) name step
      ∙ ap (λ f. f name)
      (sym (after-append e (framewise unexports outer) (map Removes unexports ++ frame_exports frame) ∙ after-append by_frames (map Removes unexports)
      (frame_exports frame)))

  -- after the names are removed, earlier removals make no difference
  cleared_alike : (frames : Frames) → after_changes (after_changes e (frames_exports frames)) (map Removes unexports) name
      ≡ after_changes (after_changes e (framewise unexports frames)) (map Removes unexports) name
  cleared_alike frames =
      let plain = after_changes e (frames_exports frames) in
      let by_frames = after_changes e (framewise unexports frames) in
      let same : cond (among unexports name) None (plain name) ≡ cond (among unexports name) None (by_frames name) =
      elim (among unexports name) as (λ b. among unexports name ≡ b → cond b None (plain name) ≡ cond b None (by_frames name)) [
        | true ↦ λ _. refl
        | false ↦ λ other. kept frames other
      ] refl in
      removed plain unexports name ∙ same ∙ sym (removed by_frames unexports name)

  alike : (frames : Frames) → after_changes e (exports unexports frames) name ≡ after_changes e (framewise unexports frames) name
  alike [] = refl
  alike (frame ∷ outer) =
      let plain = after_changes e (frames_exports outer) in
      let by_frames = after_changes e (framewise unexports outer) in
      let rest = map Removes unexports ++ frame_exports frame in
      let parted = λ (f : Environment). ap (λ g. g name) (after-append f (map Removes unexports) (frame_exports frame)) in
      ap (λ f. f name) (after-append e (frames_exports outer) rest)
      ∙ parted plain
      ∙ after_at (after_changes plain (map Removes unexports)) (after_changes by_frames (map Removes unexports)) (frame_exports frame) name
      (cleared_alike outer)
      ∙ sym (parted by_frames)
      ∙ ap (λ f. f name) (sym (after-append e (framewise unexports outer) rest))

-- Removing the names once has the same effect as removing them at each frame.
pub exports_framewise : (unexports : List Text) (frames : Frames) → ComeToTheSame (exports unexports frames) (framewise unexports frames)
exports_framewise unexports frames e name = alike unexports e name frames
