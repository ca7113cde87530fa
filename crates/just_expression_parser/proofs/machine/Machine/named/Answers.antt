use Rattle.std.proofs.Common.{sym, ◌∙◌, arith}
use Rattle.just_syntax.specs.View.{token_view}
use Rattle.just_expression_parser.proofs.Starts.{if_refused, name_here}
use Rattle.just_expression_parser.specs.Parsed.{left, waiting}
use Rattle.just_expression_parser.proofs.machine.Machine.named.Goals as goal

pub returns-then-eq : goal.returns-then-eq
returns-then-eq c = (
  tt,
  if_refused (token_view c.args.token) (left c.args.self.now) (waiting c.args.self.now) c.unexpected.result
      (sym c.eq.ensures ∙ c.if-eq.true) c.unexpected.ensures,
)

pub returns-else-eq : goal.returns-else-eq
returns-else-eq c = (
  (
    sym (name_here (token_view c.args.token) (left c.args.self.now) (waiting c.args.self.now) (sym c.eq.ensures ∙ c.if-eq.false)),
    omega
        arith,
  ),
  tt,
)
