use Rattle.std.proofs.Common.{map, arith}
use Rattle.std.proofs.lemmas.Result.{IfOk-weaker}
use Rattle.just_syntax.specs.View.{view}
use Rattle.just_lexer.specs.View.{lexeme_view}
use Rattle.just_expression_parser.proofs.Sound.{derives_at}
use Rattle.just_expression_parser.proofs.parse.parse_value.Goals as goal

pub returns-clause-derived : goal.returns-clause-derived
returns-clause-derived c =
    IfOk-weaker c.read.result _ _
    (λ p read. derives_at 4 (view p.0) (map lexeme_view c.args.tokens.now) (map lexeme_view p.1.now) (omega arith) read) c.read.ensures.exact
