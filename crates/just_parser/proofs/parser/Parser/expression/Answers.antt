use Rattle.std.proofs.Common.{ap, sym, ◌∙◌}
use Rattle.just_syntax.specs.View.{view}
use Rattle.just_parser.proofs.Reading.{expression_refused}
use Rattle.just_parser.specs.Parsed.{unread}
use Rattle.just_parser.specs.Phrase.{Read, expression, of_machine}
use Rattle.just_parser.proofs.parser.Parser.expression.Goals as goal

pub returns-in-Ok-clause-ok : goal.returns-in-Ok-clause-ok
unfolding expression
returns-in-Ok-clause-ok c = ap of_machine (rw c.rest.ensures at c.in-Ok.ensures.exact) ∙ ap (Read (view c.in-Ok.expression)) (sym c.new-self.ensures)

pub returns-in-Err-clause-refused : goal.returns-in-Err-clause-refused
returns-in-Err-clause-refused c =
    expression_refused (unread c.args.self.now) c.in-Err.refusal c.of_syntax.result (rw c.rest.ensures at c.in-Err.ensures.refused) c.of_syntax.ensures
