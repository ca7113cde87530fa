use Rattle.std.proofs.Common.{[], arith, length, rules, sym, ◌∙◌, ◌-◌}
use Rattle.just_lexer.specs.declared.kind.TokenKind.TheVariants as kinds
use Rattle.just_expression_parser.specs.Tokens.{is_at}
use Rattle.just_parser.proofs.Repeated.{prepended_none, turn_refused, turned, turns_end, turns_over}
use Rattle.just_parser.specs.Parsed.{IsPhraseRefused, unread}
use Rattle.just_parser.specs.Phrase.{many}
use Rattle.just_parser.specs.Attributes.{ignored_element}
use Rattle.just_parser.proofs.parser.Parser.each_ignored.Goals as goal

pub returns-then-is_at-clause-ok : goal.returns-then-is_at-clause-ok
returns-then-is_at-clause-ok c =
    sym (prepended_none (many (is_at 0 kinds.ParenR) ignored_element (unread c.args.self.now)))
    ∙ turns_end (is_at 0 kinds.ParenR) ignored_element [] [] _ (unread c.loop.self) (unread c.args.self.now) (sym c.is_at.ensures ∙ c.if-is_at.true)
    c.loop.invariant

pub returns-in_err-ignored_element-clause-refused : goal.returns-in_err-ignored_element-clause-refused
returns-in_err-ignored_element-clause-refused c =
    let refused : IsPhraseRefused (many (is_at 0 kinds.ParenR) ignored_element (unread c.args.self.now)) c.in_err-ignored_element.field-0.0 =
    turn_refused (length c.rest-end.result.now) c.loop.counter (is_at 0 kinds.ParenR) ignored_element [] [] (unread c.loop.self)
    (many (is_at 0 kinds.ParenR) ignored_element (unread c.args.self.now)) c.in_err-ignored_element.field-0.0 c.loop-test.true
    (sym c.is_at.ensures ∙ c.if-is_at.false) c.in_err-ignored_element.ensures.refused c.loop.invariant in
    search rules

pub loop-preserved : goal.loop-preserved
loop-preserved c =
    turned (length c.rest-end.result.now) c.loop.counter (is_at 0 kinds.ParenR) ignored_element [] [] (unread c.loop.self)
    (unread c.ignored_element.new.self) c.loop-test.true (sym c.is_at.ensures ∙ c.if-is_at.false)
    (prepended_none (ignored_element (unread c.loop.self)) ∙ c.in_ok-ignored_element.ensures.ok) ∙ c.loop.invariant

pub returns-clause-ok : goal.returns-clause-ok
returns-clause-ok c =
    sym (prepended_none (many (is_at 0 kinds.ParenR) ignored_element (unread c.args.self.now)))
    ∙ turns_over (is_at 0 kinds.ParenR) ignored_element [] [] (length c.rest-end.result.now - c.loop.counter) (unread c.loop.self) (unread c.args.self.now)
    (omega (arith, c.loop-test.false)) c.loop.invariant
