-- The message of `OutOfMemory`.
use Rattle.std.specs.Prelude.{codes}
use Rattle.just_syntax.specs.Plain.{Text}

abbrev pub no_memory_text : Text
no_memory_text = codes "out of memory"
