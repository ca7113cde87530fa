use Rattle.just_bench.proofs.print.print_const_refusal.Goals as goal

pub returns-in_ok-push_str-in-OutOfMemory : goal.returns-in_ok-push_str-in-OutOfMemory
returns-in_ok-push_str-in-OutOfMemory c = rw (c.in-OutOfMemory.is) c.in_ok-push_str-in-OutOfMemory.ensures.bytes
