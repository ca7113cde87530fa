-- Expressions whose variables have the numbers of their names.
use Rattle.std.specs.Prelude.{ℕ, List, [], ◌∷◌, ◌++◌, Option, Some, None, map, if◌then◌else◌}
use Rattle.std.specs.List.{flat_map}
use Rattle.std.specs.Str.{bytes_eq}
use Rattle.just_syntax.specs.Plain.{Text, Token, Assignment, Expr}
use Rattle.just_syntax.specs.Renumbered.{renumbered}
use Rattle.just_value.specs.Frames.{Frame, Frames}
use Rattle.just_resolution.specs.Fault.{numbered_assignments}

-- ---- names

-- the number of the first pair with this name
abbrev pub first_named : List (Token × ℕ) → Text → Option ℕ
first_named [] name = None
first_named (p ∷ ps) name = if bytes_eq name p.0.lexeme then Some p.1 else first_named ps name

-- the names that a frame binds, with their numbers
abbrev pub frame_names : Frame → List (Token × ℕ)
frame_names frame = map (λ b. (b.1.name, b.1.number)) frame

-- the names that frames bind, with their numbers, the innermost frame first
abbrev pub bound_names : Frames → List (Token × ℕ)
bound_names frames = flat_map frame_names frames

-- what an assignment can read: the assignments, and then what is bound outside; the first with a name hides the others
abbrev pub visible : List Assignment → Frames → List (Token × ℕ)
visible assignments outer = numbered_assignments assignments ++ bound_names outer

-- ---- expressions

-- the expression in which each variable has the number of its name
abbrev pub numbered_expression : (Text → Option ℕ) → Expr → Expr
numbered_expression names = renumbered (λ name number. names name)
