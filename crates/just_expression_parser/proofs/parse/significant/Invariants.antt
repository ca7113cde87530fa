use Rattle.std.proofs.Common.{drop, map, ◌++◌, ◌≡◌}
use Rattle.just_lexer.specs.View.{lexeme_view}
use Rattle.just_expression_parser.specs.Tokens.{significant}
use Rattle.just_expression_parser.proofs.parse.significant.Given as goal

-- what was kept, before what matters of the rest, is what matters of all
abbrev pub invariant-loop-lexeme : goal.invariant-loop-lexeme
invariant-loop-lexeme l =
    map lexeme_view l.kept.items ++ significant (map lexeme_view (drop l.lexeme-index l.lexemes)) ≡ significant (map lexeme_view l.lexemes)
