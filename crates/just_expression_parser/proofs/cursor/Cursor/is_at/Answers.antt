use Rattle.std.proofs.Common.{ap, sym, ◌∙◌}
use borrow.Author.Tests.{ltb-true}
use Rattle.just_lexer.specs.View.{lexeme_view}
use Rattle.just_lexer.specs.declared.lexeme.Lexeme.{Lexeme}
use Rattle.just_expression_parser.proofs.Parsing.{at_none, at_some}
use Rattle.just_expression_parser.specs.Tokens.{is_at, is_kind}
use Rattle.just_expression_parser.proofs.cursor.Cursor.is_at.Goals as goal

pub returns-in-Some : goal.returns-in-Some
returns-in-Some c =
    let found = c.in-Some.ensures.lookup in
    c.is_of_kind.ensures ∙ ap (λ (t : Lexeme). is_kind c.args.kind (lexeme_view t)) found.1
    ∙ sym (at_some c.args.others c.args.kind c.rest.result.now c.in-Some.lexeme.now (ltb-true _ _ (sym found.0)))
    ∙ ap (is_at c.args.others c.args.kind) c.rest.ensures

pub returns-in-None : goal.returns-in-None
returns-in-None c =
    sym (at_none c.args.others c.args.kind c.rest.result.now c.in-None.ensures.lookup.3) ∙ ap (is_at c.args.others c.args.kind) c.rest.ensures
