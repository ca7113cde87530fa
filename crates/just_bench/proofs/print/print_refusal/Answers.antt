use Rattle.just_bench.proofs.print.print_refusal.Goals as goal

pub returns-in_ok-writeln-in-RecursionLimit : goal.returns-in_ok-writeln-in-RecursionLimit
returns-in_ok-writeln-in-RecursionLimit c = rw (c.in-RecursionLimit.is) c.in_ok-writeln-in-RecursionLimit.ensures.bytes

pub returns-in_ok-writeln-in-OutOfMemory : goal.returns-in_ok-writeln-in-OutOfMemory
returns-in_ok-writeln-in-OutOfMemory c = rw (c.in-OutOfMemory.is) c.in_ok-writeln-in-OutOfMemory.ensures.bytes
