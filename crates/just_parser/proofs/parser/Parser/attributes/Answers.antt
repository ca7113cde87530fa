use Rattle.std.proofs.Common.{arith, length, map, rules, sym, ◌∙◌, ◌-◌}
use Rattle.just_parser.specs.View.{written_view}
use Rattle.just_parser.proofs.Repeated.{turn_refused, turned, turns_end, turns_over}
use Rattle.just_parser.specs.Parsed.{IsPhraseRefused, unread}
use Rattle.just_parser.specs.Phrase.{many}
use Rattle.just_parser.specs.Attributes.{attribute_line, is_after_attributes}
use Rattle.just_parser.proofs.parser.Parser.attributes.Goals as goal

pub returns-then-is_after_attributes-clause-ok : goal.returns-then-is_after_attributes-clause-ok
returns-then-is_after_attributes-clause-ok c =
    turns_end is_after_attributes attribute_line (map written_view c.loop.into.items)
    (map written_view c.args.into.now.items) _ (unread c.loop.self) (unread c.args.self.now)
    (sym c.is_after_attributes.ensures ∙ c.if-is_after_attributes.true) c.loop.invariant

pub returns-in_err-attribute_line-clause-refused : goal.returns-in_err-attribute_line-clause-refused
returns-in_err-attribute_line-clause-refused c =
    let refused : IsPhraseRefused (many is_after_attributes attribute_line (unread c.args.self.now)) c.in_err-attribute_line.field-0.0 =
    turn_refused (length c.rest-end.result.now) c.loop.counter is_after_attributes attribute_line (map written_view c.loop.into.items)
    (map written_view c.args.into.now.items)
    (unread c.loop.self) (many is_after_attributes attribute_line (unread c.args.self.now)) c.in_err-attribute_line.field-0.0 c.loop-test.true (sym
    c.is_after_attributes.ensures ∙ c.if-is_after_attributes.false)
    c.in_err-attribute_line.ensures.refused c.loop.invariant in
    search rules

pub loop-preserved : goal.loop-preserved
loop-preserved c =
    turned (length c.rest-end.result.now) c.loop.counter is_after_attributes attribute_line (map written_view c.loop.into.items)
    (map written_view c.attribute_line.new.into.items) (unread c.loop.self)
    (unread c.attribute_line.new.self) c.loop-test.true (sym c.is_after_attributes.ensures ∙ c.if-is_after_attributes.false)
    c.in_ok-attribute_line.ensures.ok ∙ c.loop.invariant

pub returns-clause-ok : goal.returns-clause-ok
returns-clause-ok c =
    turns_over is_after_attributes attribute_line (map written_view c.loop.into.items)
    (map written_view c.args.into.now.items) (length c.rest-end.result.now - c.loop.counter) (unread c.loop.self)
    (unread c.args.self.now) (omega (arith, c.loop-test.false)) c.loop.invariant
