use Rattle.std.proofs.Common.{◌≡◌, Some, IfErr, IfOk, subst}
use Rattle.just_syntax.specs.View.{literal_view, token_view}
use Rattle.just_expression_parser.specs.Parsed.{IsNoLiteral, style_view}
use Rattle.just_expression_parser.proofs.Written.{whole_is}
use Rattle.just_expression_parser.proofs.literal.whole_format.Goals as goal

pub returns-clause-ok : goal.returns-clause-ok
returns-clause-ok c = subst (λ o. IfOk c.piece.result (λ l. o ≡ Some (literal_view l)))
    (whole_is c.args.token.lexeme.now _ _ (style_view c.of_format-style.result) c.of_format-style.ensures c.without_front-text.ensures c.cut.ensures)
    c.piece.ensures.ok

pub returns-clause-refused : goal.returns-clause-refused
returns-clause-refused c = subst (λ o. IfErr c.piece.result (IsNoLiteral o (token_view c.args.token)))
    (whole_is c.args.token.lexeme.now _ _ (style_view c.of_format-style.result) c.of_format-style.ensures c.without_front-text.ensures c.cut.ensures)
    c.piece.ensures.refused
