use Rattle.just_value.proofs.Named.{nothing_rises}
use Rattle.just_value.proofs.expression_context.ExpressionContext.new.Goals as goal

pub invariant_of-result : goal.invariant_of-result
invariant_of-result c = record { rising = rw c.new.ensures.items nothing_rises }
