-- The entries of the table, as plain data.
use Rattle.std.specs.Borrow.{Bor}
use Rattle.just_syntax.specs.Plain.{Text}
use Rattle.just_builtins.specs.declared.function.Function.{Function}

-- a name, and its function
abbrev pub entry_view : Bor Text × Function → Text × Function
entry_view entry = (entry.0.now, entry.1)
