use Rattle.std.proofs.Common.{◌≡◌, [], take}
use Rattle.just_value.specs.Prelude.{AreRising, ShowsFrame, frame_view}
use Rattle.just_value.proofs.frame.add_places.Given as goal

-- the places so far show the bindings before this index
abbrev pub invariant-loop-at : goal.invariant-loop-at
invariant-loop-at l =
    l.initial.places.entries ≡ [] → AreRising l.bindings → ShowsFrame (frame_view (take l.at l.bindings)) l.bindings l.places.entries
