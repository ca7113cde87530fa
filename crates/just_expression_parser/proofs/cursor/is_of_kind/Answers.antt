use Rattle.std.proofs.Common.{inl, inr, rules, sym, ◌∙◌}
use denote.Enum.Bare.{false_same, true_same}
use Rattle.just_lexer.specs.View.{lexeme_view}
use Rattle.just_lexer.specs.contracts.kind.TokenKind.{the_type}
use Rattle.just_expression_parser.proofs.Codes as codes
use Rattle.just_expression_parser.proofs.cursor.is_of_kind.Goals as goal

pub returns : goal.returns
returns c = elim (codes.at_kind c.args.kind (lexeme_view c.args.lexeme.now)) [
  | inl same ↦ c.eq.ensures ∙ true_same the_type _ _ same ∙ sym (codes.is_of_kind c.args.kind (lexeme_view c.args.lexeme.now) same)
  | inr other ↦ c.eq.ensures ∙ false_same the_type (search rules) _ _ other
      ∙ sym (codes.is_not_of_kind c.args.kind (lexeme_view c.args.lexeme.now) other)
]
