use Rattle.std.proofs.Common.{map}
use Rattle.std.proofs.lemmas.Result.{IfErr-weaker, IfOk-weaker}
use Rattle.just_lexer.specs.View.{lexeme_view}
use Rattle.just_parser.proofs.Texts.{no_justfile}
use Rattle.just_parser.proofs.parsing.parse.Goals as goal

pub returns-in-Ok-clause-exact : goal.returns-in-Ok-clause-exact
returns-in-Ok-clause-exact c =
    IfOk-weaker c.parse_lexemes.result _ _ (λ all read. (map lexeme_view c.in-Ok.lexemes.items, c.in-Ok.ensures.exact, read.0, read.1))
    (rw c.deref.ensures.value at c.parse_lexemes.ensures.exact)

pub returns-in-Ok-clause-refused : goal.returns-in-Ok-clause-refused
returns-in-Ok-clause-refused c =
    IfErr-weaker c.parse_lexemes.result _ _
    (λ error refused. no_justfile c.args.path.now c.args.source.now (map lexeme_view c.in-Ok.lexemes.items) error c.in-Ok.ensures.exact refused)
    (rw c.deref.ensures.value at c.parse_lexemes.ensures.refused)
