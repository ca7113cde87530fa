use Rattle.std.proofs.Common.{arith, length, map, rules, sym, ◌∙◌, ◌-◌}
use Rattle.just_syntax.specs.View.{fragment_view}
use Rattle.just_parser.proofs.Repeated.{turn_refused, turned, turns_end, turns_over}
use Rattle.just_parser.specs.Parsed.{IsPhraseRefused, unread}
use Rattle.just_parser.specs.Phrase.{many}
use Rattle.just_parser.specs.Recipes.{is_after_fragments, line_fragment}
use Rattle.just_parser.proofs.parser.Parser.each_fragment.Goals as goal

pub returns-then-is_after_fragments-clause-ok : goal.returns-then-is_after_fragments-clause-ok
returns-then-is_after_fragments-clause-ok c =
    turns_end is_after_fragments line_fragment (map fragment_view c.loop.into.items)
    (map fragment_view c.args.into.now.items) _ (unread c.loop.self) (unread c.args.self.now)
    (sym c.is_after_fragments.ensures ∙ c.if-is_after_fragments.true) c.loop.invariant

pub returns-in_err-fragment-clause-refused : goal.returns-in_err-fragment-clause-refused
returns-in_err-fragment-clause-refused c =
    let refused : IsPhraseRefused (many is_after_fragments line_fragment (unread c.args.self.now)) c.in_err-fragment.field-0.0 =
    turn_refused (length c.rest-end.result.now) c.loop.counter is_after_fragments line_fragment (map fragment_view c.loop.into.items)
    (map fragment_view c.args.into.now.items)
    (unread c.loop.self) (many is_after_fragments line_fragment (unread c.args.self.now)) c.in_err-fragment.field-0.0 c.loop-test.true (sym
    c.is_after_fragments.ensures ∙ c.if-is_after_fragments.false)
    c.in_err-fragment.ensures.refused c.loop.invariant in
    search rules

pub loop-preserved : goal.loop-preserved
loop-preserved c =
    turned (length c.rest-end.result.now) c.loop.counter is_after_fragments line_fragment (map fragment_view c.loop.into.items)
    (map fragment_view c.fragment.new.into.items) (unread c.loop.self)
    (unread c.fragment.new.self) c.loop-test.true (sym c.is_after_fragments.ensures ∙ c.if-is_after_fragments.false) c.in_ok-fragment.ensures.ok ∙
    c.loop.invariant

pub returns-clause-ok : goal.returns-clause-ok
returns-clause-ok c =
    turns_over is_after_fragments line_fragment (map fragment_view c.loop.into.items)
    (map fragment_view c.args.into.now.items) (length c.rest-end.result.now - c.loop.counter) (unread c.loop.self)
    (unread c.args.self.now) (omega (arith, c.loop-test.false)) c.loop.invariant
