-- The result of a line.
use Rattle.std.specs.Prelude.{◌≡◌, Option, Some, None, Result, Ok, Err}
use Rattle.just_case_reader.specs.declared.line_error.LineError.{LineError}
use Rattle.just_case_reader.specs.declared.line_error.LineError.TheVariants.{Bad, OutOfMemory}

-- P holds if the line is bad; nothing is claimed if memory ran out
abbrev pub IfBad : LineError → Type 0 → Type 0
IfBad Bad P = P
IfBad OutOfMemory P = Unit {0}

-- The line is done, with this result; or it is bad, and has none; or memory ran out.
abbrev pub Done : {A B : Type 0} → Result A LineError → Option B → B → Type 0
Done (Ok value) comes new = comes ≡ Some new
Done (Err e) comes new = IfBad e (comes ≡ None)
