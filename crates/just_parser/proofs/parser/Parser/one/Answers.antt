use Rattle.just_syntax.specs.View.{token_view}
use Rattle.just_parser.proofs.Reading.{one_refused, one_taken}
use Rattle.just_parser.specs.Parsed.{unread}
use Rattle.just_parser.proofs.parser.Parser.one.Goals as goal

pub returns-in-Some-clause-ok : goal.returns-in-Some-clause-ok
returns-in-Some-clause-ok c = one_taken c.args.kind (token_view c.in-Some.token) (unread c.args.self.now) _ c.in-Some.ensures.some

pub returns-in-None-clause-refused : goal.returns-in-None-clause-refused
returns-in-None-clause-refused c =
    let none = c.in-None.ensures.none in
    one_refused c.args.kind (unread c.args.self.now) c.expected.result none.1 (rw none.0 at c.expected.ensures)
