use Rattle.std.specs.List.{drop-map}
use Rattle.std.proofs.Common.{◌∙◌, ap, map, sym, drop, drop-drop}
use Rattle.just_lexer.specs.View.{lexeme_view}
use Rattle.just_expression_parser.proofs.cursor.Cursor.take_word.Goals as goal

pub returns-then-is_at_word-clause-taken : goal.returns-then-is_at_word-clause-taken
returns-then-is_at_word-clause-taken c _ =
    let at = c.args.self.now.taken in let all = c.args.self.now.tokens.now in
    ap (map lexeme_view) (sym (drop-drop 1 at all)) ∙ sym (drop-map lexeme_view 1 (drop at all))
