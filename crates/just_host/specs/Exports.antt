-- The effect on an environment of a scope's exported bindings and of the unexported names.
use Rattle.std.specs.Prelude.{◌≡◌, List, [], ◌∷◌, ◌++◌, Option, Some, None, bytes_eq, if◌then◌else◌, filter, map}
use Rattle.std.specs.Map.{values_of}
use Rattle.just_syntax.specs.Plain.{Text}
use Rattle.just_value.specs.Frames.{Bound, Frame, Frames}
use Rattle.just_value.specs.Value.{joined}

-- a variable is set to a text, or removed
pub data Change : Type 0 where
  Sets : Text → Text → Change
  Removes : Text → Change

-- an exported binding sets the variable of its name to its joined value
abbrev pub exported : Bound → Change
exported b = Sets b.name.lexeme (joined b.value)

-- the changes of the exported ones among some bindings, in order
abbrev pub exported_among : List Bound → List Change
exported_among bindings = map exported (filter (λ b. b.export) bindings)

-- the changes of a frame, in ascending order of number
abbrev pub frame_exports : Frame → List Change
frame_exports frame = exported_among (values_of frame)

-- the changes of frames, given innermost first, from the outermost frame inward
abbrev pub frames_exports : Frames → List Change
frames_exports [] = []
frames_exports (frame ∷ outer) = frames_exports outer ++ frame_exports frame

-- The changes of the outer frames, the outermost first; then the removals of the unexported names; then the changes of
-- the innermost frame.
abbrev pub exports : List Text → Frames → List Change
exports unexports [] = []
exports unexports (frame ∷ outer) = frames_exports outer ++ (map Removes unexports ++ frame_exports frame)

-- For each frame, from the outermost inward: the removals of the unexported names, and the frame's changes.
abbrev pub framewise : List Text → Frames → List Change
framewise unexports [] = []
framewise unexports (frame ∷ outer) = framewise unexports outer ++ (map Removes unexports ++ frame_exports frame)

-- the values of the variables that are set
abbrev pub Environment : Type 0
Environment = Text → Option Text

abbrev pub changed : Environment → Change → Text → Option Text
changed e (Sets key text) name = if bytes_eq key name then Some text else e name
changed e (Removes key) name = if bytes_eq key name then None else e name

-- the environment after a list of changes
abbrev pub after_changes : Environment → List Change → Environment
after_changes e [] = e
after_changes e (c ∷ cs) = after_changes (changed e c) cs

-- both lists of changes have the same effect on every environment
abbrev pub ComeToTheSame : List Change → List Change → Type 0
ComeToTheSame xs ys = (e : Environment) (name : Text) → after_changes e xs name ≡ after_changes e ys name
