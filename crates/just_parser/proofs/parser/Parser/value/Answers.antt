use Rattle.std.proofs.Common.{ap, sym, ◌∙◌}
use Rattle.just_syntax.specs.View.{view}
use Rattle.just_parser.proofs.Reading.{value_refused}
use Rattle.just_parser.specs.Parsed.{unread}
use Rattle.just_parser.specs.Phrase.{Read, of_machine, value}
use Rattle.just_parser.proofs.parser.Parser.value.Goals as goal

pub returns-in-Ok-clause-ok : goal.returns-in-Ok-clause-ok
unfolding value
returns-in-Ok-clause-ok c = ap of_machine (rw c.rest.ensures at c.in-Ok.ensures.exact) ∙ ap (Read (view c.in-Ok.expression)) (sym c.new-self.ensures)

pub returns-in-Err-clause-refused : goal.returns-in-Err-clause-refused
returns-in-Err-clause-refused c =
    value_refused (unread c.args.self.now) c.in-Err.refusal c.of_syntax.result (rw c.rest.ensures at c.in-Err.ensures.refused) c.of_syntax.ensures
