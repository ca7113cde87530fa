use Rattle.std.proofs.Common.{arith, length, map, rules, sym, ◌∙◌, ◌-◌}
use Rattle.just_parser.specs.View.{dependency_view}
use Rattle.just_parser.proofs.Repeated.{turn_refused, turned, turns_end, turns_over}
use Rattle.just_parser.specs.Parsed.{IsPhraseRefused, unread}
use Rattle.just_parser.specs.Phrase.{many}
use Rattle.just_parser.specs.Recipes.{dependency, is_after_dependencies}
use Rattle.just_parser.proofs.parser.Parser.dependencies.Goals as goal

pub returns-then-is_after_dependencies-clause-ok : goal.returns-then-is_after_dependencies-clause-ok
returns-then-is_after_dependencies-clause-ok c =
    turns_end is_after_dependencies dependency (map dependency_view c.loop.into.items)
    (map dependency_view c.args.into.now.items) _ (unread c.loop.self) (unread c.args.self.now)
    (sym c.is_after_dependencies.ensures ∙ c.if-is_after_dependencies.true) c.loop.invariant

pub returns-in_err-dependency-clause-refused : goal.returns-in_err-dependency-clause-refused
returns-in_err-dependency-clause-refused c =
    let refused : IsPhraseRefused (many is_after_dependencies dependency (unread c.args.self.now)) c.in_err-dependency.field-0.0 =
    turn_refused (length c.rest-end.result.now) c.loop.counter is_after_dependencies dependency (map dependency_view c.loop.into.items)
    (map dependency_view c.args.into.now.items)
    (unread c.loop.self) (many is_after_dependencies dependency (unread c.args.self.now)) c.in_err-dependency.field-0.0 c.loop-test.true (sym
    c.is_after_dependencies.ensures ∙ c.if-is_after_dependencies.false)
    c.in_err-dependency.ensures.refused c.loop.invariant in
    search rules

pub loop-preserved : goal.loop-preserved
loop-preserved c =
    turned (length c.rest-end.result.now) c.loop.counter is_after_dependencies dependency (map dependency_view c.loop.into.items)
    (map dependency_view c.dependency.new.into.items) (unread c.loop.self)
    (unread c.dependency.new.self) c.loop-test.true (sym c.is_after_dependencies.ensures ∙ c.if-is_after_dependencies.false)
    c.in_ok-dependency.ensures.ok ∙ c.loop.invariant

pub returns-clause-ok : goal.returns-clause-ok
returns-clause-ok c =
    turns_over is_after_dependencies dependency (map dependency_view c.loop.into.items)
    (map dependency_view c.args.into.now.items) (length c.rest-end.result.now - c.loop.counter) (unread c.loop.self)
    (unread c.args.self.now) (omega (arith, c.loop-test.false)) c.loop.invariant
