use Rattle.std.proofs.Common.{map, sym, ◌∙◌}
use Rattle.std.proofs.lemmas.Result.{IfErr-weaker, IfOk-weaker}
use Rattle.just_syntax.specs.View.{view}
use Rattle.just_lexer.specs.View.{lexeme_view}
use Rattle.just_expression_parser.proofs.Derived.{reads_what_is_derived, same_reading}
use Rattle.just_expression_parser.proofs.Early.{no_expression}
use Rattle.just_expression_parser.proofs.Sound.{derives_what_is_read}
use Rattle.just_expression_parser.proofs.parse.parse_expression.Goals as goal

pub returns-clause-derived : goal.returns-clause-derived
returns-clause-derived c =
    IfOk-weaker c.read.result _ _ (λ p read. derives_what_is_read (view p.0) (map lexeme_view c.args.tokens.now) (map lexeme_view p.1.now) read)
    c.read.ensures.exact

pub returns-clause-only : goal.returns-clause-only
returns-clause-only c =
    IfOk-weaker c.read.result _ _ (λ p read e rest derived ended. same_reading (view p.0) e (map lexeme_view p.1.now) rest
    (sym read ∙ reads_what_is_derived e (map lexeme_view c.args.tokens.now) rest derived ended)) c.read.ensures.exact

pub returns-clause-refused : goal.returns-clause-refused
returns-clause-refused c =
    IfErr-weaker c.read.result _ _ (λ error refused. no_expression (map lexeme_view c.args.tokens.now) error refused) c.read.ensures.refused
