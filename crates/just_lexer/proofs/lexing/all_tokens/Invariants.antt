use Rattle.std.proofs.Common.{◌+◌, ◌*◌, List, ◌++◌, length, map, min}
use Rattle.just_syntax.specs.View.{place_view}
use Rattle.just_lexer.specs.Advances.{PlaceFits}
use Rattle.just_lexer.specs.Lexes.{Ending, IsLexed, Lexes}
use Rattle.just_lexer.specs.State.{Lexeme}
use Rattle.just_lexer.specs.View.{lexeme_view, lexer_view}
use Rattle.just_lexer.proofs.lexing.all_tokens.Given as goal

-- what follows the tokens so far
abbrev pub invariant-loop-kind : goal.invariant-loop-kind
invariant-loop-kind l = record {
  same : (rest : List Lexeme) (ending : Ending) → Lexes (lexer_view l.lexer) l.lexer.rest.now rest ending
      → IsLexed l.path l.source (map lexeme_view l.lexemes.items ++ rest) ending;
  room : PlaceFits (place_view l.lexer.place) l.lexer.rest.now;
}

abbrev pub decreases-loop-kind : goal.decreases-loop-kind
decreases-loop-kind l = 2 * length l.lexer.rest.now + min 1 (length l.lexer.indentation.now)
