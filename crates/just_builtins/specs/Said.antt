-- Messages of call faults.
use Rattle.std.specs.Prelude.{codes, string_bytes}
use Rattle.just_syntax.specs.OutOfMemory.{no_memory_text}
use Rattle.just_syntax.specs.Plain.{Text}
use Rattle.just_builtins.specs.declared.call_fault.CallFault.{CallFault}
use Rattle.just_builtins.specs.declared.call_fault.CallFault.TheVariants.{Internal, Message, OutOfMemory}

-- the function's own message, that of `OutOfMemory`, or that the function has no such shape
abbrev pub call_fault_text : CallFault → Text
call_fault_text Internal = codes "function has no such shape"
call_fault_text (Message message) = string_bytes message
call_fault_text OutOfMemory = no_memory_text
