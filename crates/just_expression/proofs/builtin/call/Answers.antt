use Rattle.std.proofs.Common.{None, refl}
use Rattle.just_interaction.proofs.Paths.{runs_done, runs_ends, runs_gives, runs_on}
use Rattle.just_expression.proofs.builtin.call.Goals as goal

pub returns-in-Ok : goal.returns-in-Ok
returns-in-Ok g c = runs_on _ _ c.in-Ok.ensures.replied (runs_gives _)

pub returns-in-Err-Message : goal.returns-in-Err-Message
returns-in-Err-Message g c = runs_on _ _ (rw c.in-Err-Message.field-0-is at c.in-Err-Message.ensures.replied) (runs_done _ _ refl)

pub returns-in-Err-OutOfMemory : goal.returns-in-Err-OutOfMemory
returns-in-Err-OutOfMemory g c = runs_ends _ _ None (rw c.in-Err-OutOfMemory.field-0-is at c.in-Err-OutOfMemory.ensures.replied)
