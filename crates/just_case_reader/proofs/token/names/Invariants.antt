use Rattle.std.proofs.Common.{◌≡◌, take, map}
use Rattle.just_case_reader.specs.Prelude.{name_view, token_of}
use Rattle.just_case_reader.proofs.token.names.Given as goal

abbrev pub invariant-loop-lexeme : goal.invariant-loop-lexeme
invariant-loop-lexeme l = map name_view l.names.items ≡ map token_of (map (λ lexeme. lexeme.now) (take l.lexeme-index l.lexemes))
