use Rattle.std.proofs.Common.{arith, inl}
use Rattle.just_expression_parser.proofs.machine.Machine.first.Goals as goal

pub returns-then-least-le-SUM : goal.returns-then-least-le-SUM
returns-then-least-le-SUM c = c.loose.ensures (omega (arith, c.if-least-le-SUM.true))

pub returns-else-least-le-SUM : goal.returns-else-least-le-SUM
returns-else-least-le-SUM c = c.operand.ensures (inl (omega (arith, c.if-least-le-SUM.false)))
