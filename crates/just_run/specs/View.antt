-- What a call with words gave, as plain data.
use Rattle.std.specs.Prelude.{Option, Some, None}
use Rattle.just_run.specs.declared.argument_error.ArgumentError.{ArgumentError}
use Rattle.just_run.specs.declared.argument_error.ArgumentError.TheVariants.{Count, OutOfMemory}
use Rattle.just_run.specs.Arguments.{Miscount}

-- the number of words that an error reports; nothing for `OutOfMemory`
abbrev pub miscount : ArgumentError → Option Miscount
miscount (Count recipe found fewest most) =
    Some (record { recipe = recipe.now; found = found; fewest = fewest; most = most })
miscount OutOfMemory = None
