use Rattle.std.proofs.Common.{[], arith, length, rules, sym, ◌∙◌, ◌-◌}
use Rattle.just_parser.proofs.Repeated.{prepended_none, turn_refused, turned, turns_end, turns_over}
use Rattle.just_parser.specs.Parsed.{IsPhraseRefused, unread}
use Rattle.just_parser.specs.Phrase.{many}
use Rattle.just_parser.specs.Recipes.{blank, is_after_blanks}
use Rattle.just_parser.proofs.parser.Parser.blanks.Goals as goal

pub returns-then-is_after_blanks-clause-ok : goal.returns-then-is_after_blanks-clause-ok
returns-then-is_after_blanks-clause-ok c =
    sym (prepended_none (many is_after_blanks blank (unread c.args.self.now)))
    ∙ turns_end is_after_blanks blank [] [] _ (unread c.loop.self) (unread c.args.self.now) (sym c.is_after_blanks.ensures ∙ c.if-is_after_blanks.true)
    c.loop.invariant

pub returns-in_err-blank-clause-refused : goal.returns-in_err-blank-clause-refused
returns-in_err-blank-clause-refused c =
    let refused : IsPhraseRefused (many is_after_blanks blank (unread c.args.self.now)) c.in_err-blank.field-0.0 =
    turn_refused (length c.rest-end.result.now) c.loop.counter is_after_blanks blank [] [] (unread c.loop.self)
    (many is_after_blanks blank (unread c.args.self.now)) c.in_err-blank.field-0.0 c.loop-test.true
    (sym c.is_after_blanks.ensures ∙ c.if-is_after_blanks.false) c.in_err-blank.ensures.refused c.loop.invariant in
    search rules

pub loop-preserved : goal.loop-preserved
loop-preserved c =
    turned (length c.rest-end.result.now) c.loop.counter is_after_blanks blank [] [] (unread c.loop.self) (unread c.blank.new.self) c.loop-test.true
    (sym c.is_after_blanks.ensures ∙ c.if-is_after_blanks.false) (prepended_none (blank (unread c.loop.self)) ∙ c.in_ok-blank.ensures.ok) ∙ c.loop.invariant

pub returns-clause-ok : goal.returns-clause-ok
returns-clause-ok c =
    sym (prepended_none (many is_after_blanks blank (unread c.args.self.now)))
    ∙ turns_over is_after_blanks blank [] [] (length c.rest-end.result.now - c.loop.counter) (unread c.loop.self) (unread c.args.self.now)
    (omega (arith, c.loop-test.false)) c.loop.invariant
