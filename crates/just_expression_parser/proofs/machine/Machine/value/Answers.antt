use Rattle.std.proofs.Common.{ap, sym, arith, length}
use Rattle.just_expression_parser.proofs.Starts.{no_value}
use Rattle.just_expression_parser.proofs.Steps.{goes_on}
use Rattle.just_expression_parser.specs.Machine as machine
use Rattle.just_expression_parser.specs.Parsed.{left, waiting}
use Rattle.just_expression_parser.proofs.machine.Machine.value.Goals as goal

pub returns-in-Some : goal.returns-in-Some
returns-in-Some c = goes_on _ _ c.value_of.result c.value_of.new.self
    (ap (λ ts. machine.parse ts machine.Value (waiting c.args.self.now)) (sym c.in-Some.ensures.some))
    (omega (arith, ap length c.in-Some.ensures.some)) c.value_of.ensures

pub returns-in-None : goal.returns-in-None
returns-in-None c =
    let none = c.in-None.ensures.none in
    (tt, no_value (left c.args.self.now) (waiting c.args.self.now) c.unexpected.result none.0 (rw none.0 (rw none.1 at c.unexpected.ensures)))
