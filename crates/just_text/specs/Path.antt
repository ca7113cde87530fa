-- Paths are texts, split at their slashes.
use Rattle.std.specs.Prelude.{ℕ, ◌+◌, ◌-◌, Bool, false, not, ◌&&◌, ◌||◌, ◌==◌, if◌then◌else◌, [], ◌∷◌, ◌++◌, List}
use Rattle.std.specs.Prelude.{reverse, length, take, slice_index, slice_range, Option, Some, None, option_and_then}
use Rattle.std.specs.Prelude.{option_map, bytes_eq, codes}
use Rattle.std.specs.List.{slice_split, before_last, after_last}
use Rattle.std.specs.Path.{slash, dot}
use Rattle.just_syntax.specs.Plain.{Text}

-- the path begins with a slash
abbrev pub is_rooted : Text → Bool
is_rooted [] = false
is_rooted (c ∷ cs) = c == slash

-- the base with a slash at its end, unless it is empty
abbrev pub with_slash : Text → Text
with_slash base = if length base == 0 || slice_index base (length base - 1) == slash then base else base ++ codes "/"

-- the second path if it is rooted, otherwise the two joined by a slash
abbrev pub joined_paths : Text → Text → Text
joined_paths base path = if is_rooted path then path else with_slash base ++ path

-- the pieces between the slashes
abbrev pub segments : Text → List Text
segments path = slice_split (λ b. b == slash) path

-- a segment at an index of the path is a component unless it is empty, or is `.` after a slash
abbrev pub is_component : ℕ → Text → Bool
is_component at segment = not (length segment == 0) && (at == 0 || not (bytes_eq segment (codes ".")))

-- the place of a segment, if it is a component: the index of its first byte and the index after its last
abbrev pub place_of : ℕ → Text → List (ℕ × ℕ)
place_of at segment = if is_component at segment then (at, at + length segment) ∷ [] else []

-- the places of the components among segments whose first begins at an index
abbrev pub places_from : ℕ → List Text → List (ℕ × ℕ)
places_from at [] = []
places_from at (segment ∷ more) = place_of at segment ++ places_from (at + (length segment + 1)) more

-- the places of the components
abbrev pub components : Text → List (ℕ × ℕ)
components path = places_from 0 (segments path)

-- the components in reverse order
abbrev pub from_last : Text → List (ℕ × ℕ)
from_last path = reverse (components path)

-- the text up to the end of the first of some components; if there is none, the root or the empty text
abbrev pub up_to : Text → List (ℕ × ℕ) → Text
up_to path [] = if is_rooted path then codes "/" else []
up_to path (component ∷ more) = take component.1 path

-- given components in reverse order: the text up to the end of the one before the last, unless there is no last
abbrev pub before_the_last : Text → List (ℕ × ℕ) → Option Text
before_the_last path [] = None
before_the_last path (last ∷ before) = Some (up_to path before)

-- the parent of a path
unfoldable pub parent : Text → Option Text
parent path = before_the_last path (from_last path)

-- a name, unless it is `.` or `..`
abbrev pub proper : Text → Option Text
proper name = if bytes_eq name (codes ".") || bytes_eq name (codes "..") then None else Some name

-- given components in reverse order: the last, if it is a name
abbrev pub last_name : Text → List (ℕ × ℕ) → Option Text
last_name path [] = None
last_name path (last ∷ more) = proper (slice_range path last.0 last.1)

-- the last component, unless it is `.` or `..`
unfoldable pub file_name : Text → Option Text
file_name path = last_name path (from_last path)

-- the parts of a name before and after its last dot
abbrev pub before_dot : Text → Text
before_dot name = before_last (λ b. b == dot) name

abbrev pub after_dot : Text → Text
after_dot name = after_last (λ b. b == dot) name

-- a name without a dot, or whose last dot is its first byte, has no extension: its stem is all of it
abbrev pub extension_of : Text → Option Text
extension_of name = if length (before_dot name) == 0 then None else Some (after_dot name)

abbrev pub stem_of : Text → Text
stem_of name = if length (before_dot name) == 0 then name else before_dot name

-- the part of the file name after its last dot
unfoldable pub extension : Text → Option Text
extension path = option_and_then extension_of (file_name path)

-- the part of the file name before its last dot
unfoldable pub file_stem : Text → Option Text
file_stem path = option_map stem_of (file_name path)
