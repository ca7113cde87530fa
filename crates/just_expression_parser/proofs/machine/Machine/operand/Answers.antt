use Rattle.std.proofs.Common.{sym, arith}
use Rattle.just_expression_parser.proofs.Starts.{value_here}
use Rattle.just_expression_parser.proofs.Steps.{goes_on}
use Rattle.just_expression_parser.specs.Parsed.{left, waiting}
use Rattle.just_expression_parser.proofs.machine.Machine.operand.Goals as goal

pub returns : goal.returns
returns c so = goes_on _ _ c.wait.result c.wait.new.self (sym (value_here c.args.least (left c.args.self.now) (waiting c.args.self.now) so)) (omega arith)
    c.wait.ensures
