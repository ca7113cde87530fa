use Rattle.std.proofs.Common.{false, map, refl, sym, true, ◌++◌, ◌∙◌}
use Rattle.std.proofs.lemmas.List.{append-nil, at_drop_all}
use Rattle.just_lexer.specs.View.{lexeme_view}
use Rattle.just_expression_parser.proofs.Parsing.{kept_more}
use Rattle.just_expression_parser.specs.Tokens.{significant}
use Rattle.just_expression_parser.proofs.parse.significant.Goals as goal
use Rattle.just_expression_parser.proofs.parse.significant.Goals.{else-is_significant, then-is_significant+in_ok-push}

pub loop-lexeme-init : goal.loop-lexeme-init
loop-lexeme-init c = rw c.in_ok-kept.ensures.items refl

pub loop-lexeme-preserved : goal.loop-lexeme-preserved
loop-lexeme-preserved c = elim c.if-is_significant.branch [
  | then-is_significant+in_ok-push w ↦ kept_more c.args.lexemes.now c.loop-lexeme.lexeme-index _ true c.loop-lexeme.kept.items c.if-is_significant.kept.items _
      c.loop-lexeme-test.true (sym w.if-is_significant.true ∙ c.is_significant.ensures) (rw w.kept-is w.in_ok-push.ensures.items) c.loop-lexeme.invariant
  | else-is_significant w ↦ kept_more c.args.lexemes.now c.loop-lexeme.lexeme-index _ false c.loop-lexeme.kept.items c.if-is_significant.kept.items _
      c.loop-lexeme-test.true (sym w.if-is_significant.false ∙ c.is_significant.ensures) (rw w.kept-is refl) c.loop-lexeme.invariant
]

pub returns : goal.returns
returns c =
    sym (append-nil (map lexeme_view c.loop-lexeme.kept.items))
    ∙ sym (at_drop_all (λ ts. map lexeme_view c.loop-lexeme.kept.items ++ significant (map lexeme_view ts)) c.args.lexemes.now c.loop-lexeme.lexeme-index
    c.loop-lexeme-test.false) ∙ c.loop-lexeme.invariant
