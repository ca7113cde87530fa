-- The plain values of the declared types.
use Rattle.std.specs.Prelude.{map, reverse}
use Rattle.just_syntax.specs.View.{place_view, token_view}
use Rattle.just_lexer.specs.State as plain
use Rattle.just_lexer.specs.declared.lexeme.Lexeme.{Lexeme}
use Rattle.just_lexer.specs.declared.lexer.Lexer.{Lexer}
use Rattle.just_lexer.specs.declared.lexer.Opening.{Opening}

abbrev pub lexeme_view : Lexeme → plain.Lexeme
lexeme_view lexeme = record { kind = lexeme.kind; token = token_view lexeme.token }

abbrev pub opening_view : Opening → plain.Opening
opening_view opening = record { inside = opening.inside; token = token_view opening.token }

abbrev pub lexer_view : Lexer → plain.State
lexer_view lexer = record {
  place = place_view lexer.place;
  openings = reverse (map opening_view lexer.openings.items);
  indentation = lexer.indentation.now;
  in_line = lexer.in_line;
  has_colon = lexer.has_colon;
}
