-- The names that are called.
use Rattle.std.specs.Prelude.{List, [], ◌∷◌, Option, Some, None}
use Rattle.std.specs.List.{flat_map}
use Rattle.just_syntax.specs.Plain.{Text, Function}
use Rattle.just_syntax.specs.Occurrences.{CallAt, CommandAt, Occurrence, VariableAt, occurrences_in}

-- the name that is called, if it is a call
abbrev pub name_called : Occurrence → List Text
name_called (CommandAt t text) = []
name_called (CallAt t n) = t.lexeme ∷ []
name_called (VariableAt t number) = []

-- the names that are called
abbrev pub called_names : List Occurrence → List Text
called_names os = flat_map name_called os

-- the names that a function's body calls
abbrev pub calls_of : Option Function → List Text
calls_of None = []
calls_of (Some f) = called_names (occurrences_in f.body)
