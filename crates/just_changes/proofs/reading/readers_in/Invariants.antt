use Rattle.std.proofs.Common.{◌↔◌, ◌⊎◌, map}
use Rattle.just_changes.specs.Prelude.{IsIn, PlainNode, assignment_view, frames_view, function_view, readers_of, version_view}
use Rattle.just_changes.proofs.Whole.{AnyAssignment, AnyFunction}
use Rattle.just_changes.proofs.reading.readers_in.Given as goal

-- what was collected, and what the remaining assignments read, is what all assignments read
abbrev pub invariant-loop-assignment : goal.invariant-loop-assignment
invariant-loop-assignment l = (x y : PlainNode)
    → (IsIn (readers_of l.readers x) y ⊎ AnyAssignment (version_view l.version) (frames_view l.parent) (map assignment_view l.assignment-iterator) y x)
    ↔ AnyAssignment (version_view l.version) (frames_view l.parent) (map assignment_view l.version.assignments.now) y x

-- the same for functions, after what all assignments read
abbrev pub invariant-loop-function : goal.invariant-loop-function
invariant-loop-function l = (x y : PlainNode) → (IsIn (readers_of l.readers x) y ⊎ AnyFunction (map function_view l.function-iterator) y x)
    ↔ (AnyAssignment (version_view l.version) (frames_view l.parent) (map assignment_view l.version.assignments.now) y x
    ⊎ AnyFunction (map function_view l.version.functions.now) y x)
