use Rattle.std.proofs.Common.{ap, map, sym, ◌∙◌}
use Rattle.std.proofs.lemmas.Result.{IfOk-weaker}
use Rattle.just_lexer.specs.View.{lexeme_view}
use Rattle.just_parser.specs.Items.{items}
use Rattle.just_parser.specs.Parsed.{unread}
use Rattle.just_parser.proofs.parsing.parse_lexemes.Goals as goal

pub returns-in-Ok-clause-exact : goal.returns-in-Ok-clause-exact
returns-in-Ok-clause-exact c =
    let same = ap items (sym c.in-Ok.ensures ∙ ap (map lexeme_view) (sym c.deref.ensures.value) ∙ sym c.new.ensures) in
    IfOk-weaker c.items.result _ _ (λ all read. (unread c.items.new.self, same ∙ read)) c.items.ensures.ok
