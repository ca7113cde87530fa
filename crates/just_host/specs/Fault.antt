-- The message of a command's fault.
use Rattle.std.specs.Prelude.{[]}
use Rattle.just_syntax.specs.Plain.{Text}
use Rattle.just_value.specs.Refusal.{Fault, NoMemory}
use Rattle.just_value.specs.Said.{command_fault_text}

-- empty for `NoMemory`, which has no message
abbrev pub fault_text : Fault → Text
fault_text NoMemory = []
fault_text fault = command_fault_text fault
