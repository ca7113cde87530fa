use Rattle.std.proofs.Common.{arith, length, map, rules, sym, ◌∙◌, ◌-◌}
use Rattle.just_parser.specs.View.{arg_option_view}
use Rattle.just_lexer.specs.declared.kind.TokenKind.TheVariants as kinds
use Rattle.just_expression_parser.specs.Tokens.{is_at}
use Rattle.just_parser.proofs.Repeated.{turn_refused, turned, turns_end, turns_over}
use Rattle.just_parser.specs.Parsed.{IsPhraseRefused, unread}
use Rattle.just_parser.specs.Phrase.{many}
use Rattle.just_parser.specs.Attributes.{arg_option}
use Rattle.just_parser.proofs.parser.Parser.each_option.Goals as goal

pub returns-then-is_at-clause-ok : goal.returns-then-is_at-clause-ok
returns-then-is_at-clause-ok c =
    turns_end (is_at 0 kinds.ParenR) arg_option (map arg_option_view c.loop.into.items) (map arg_option_view c.args.into.now.items) _
    (unread c.loop.self) (unread c.args.self.now) (sym c.is_at.ensures ∙ c.if-is_at.true) c.loop.invariant

pub returns-in_err-arg_option-clause-refused : goal.returns-in_err-arg_option-clause-refused
returns-in_err-arg_option-clause-refused c =
    let refused : IsPhraseRefused (many (is_at 0 kinds.ParenR) arg_option (unread c.args.self.now)) c.in_err-arg_option.field-0.0 =
    turn_refused (length c.rest-end.result.now) c.loop.counter (is_at 0 kinds.ParenR) arg_option (map arg_option_view c.loop.into.items)
    (map arg_option_view c.args.into.now.items) (unread c.loop.self) (many (is_at 0 kinds.ParenR) arg_option (unread c.args.self.now))
    c.in_err-arg_option.field-0.0 c.loop-test.true (sym c.is_at.ensures ∙ c.if-is_at.false) c.in_err-arg_option.ensures.refused c.loop.invariant in
    search rules

pub loop-preserved : goal.loop-preserved
loop-preserved c =
    turned (length c.rest-end.result.now) c.loop.counter (is_at 0 kinds.ParenR) arg_option (map arg_option_view c.loop.into.items)
    (map arg_option_view c.arg_option.new.into.items) (unread c.loop.self)
    (unread c.arg_option.new.self) c.loop-test.true (sym c.is_at.ensures ∙ c.if-is_at.false) c.in_ok-arg_option.ensures.ok ∙ c.loop.invariant

pub returns-clause-ok : goal.returns-clause-ok
returns-clause-ok c =
    turns_over (is_at 0 kinds.ParenR) arg_option (map arg_option_view c.loop.into.items)
    (map arg_option_view c.args.into.now.items) (length c.rest-end.result.now - c.loop.counter) (unread c.loop.self)
    (unread c.args.self.now) (omega (arith, c.loop-test.false)) c.loop.invariant
