use Rattle.std.proofs.Common.{ap, sym, arith, length}
use Rattle.just_syntax.specs.View.{token_view, view}
use Rattle.just_expression_parser.proofs.Actions.{operator_here}
use Rattle.just_expression_parser.proofs.Steps.{goes_on}
use Rattle.just_expression_parser.specs.Parsed.{left, waiting}
use Rattle.just_expression_parser.proofs.machine.Machine.operators.Goals as goal

-- no operator: the operand is complete
pub returns-in-None : goal.returns-in-None
returns-in-None c =
    let none = c.in-None.ensures.none in
    rw (none.0, none.1) ((sym (none.2 (view c.args.lhs) (waiting c.args.self.now)), omega arith), tt)

-- an operator
pub returns-in-Some : goal.returns-in-Some
returns-in-Some c =
    let some = c.in-Some.ensures.some in
    let read = operator_here c.args.least c.args.below (left c.args.self.now) (left c.operator.new.self) some.0 (token_view c.in-Some.token)
    c.in-Some.operator (view c.args.lhs) (waiting c.args.self.now) some.1 some.2 some.3 some.4 in
    goes_on _ _ c.wait_twice.result c.wait_twice.new.self (sym read) (omega (arith, ap length some.4))
    (rw (c.level-level.ensures, some.5) at c.wait_twice.ensures)
