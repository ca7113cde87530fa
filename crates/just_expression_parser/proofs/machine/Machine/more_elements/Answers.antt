use Rattle.std.proofs.Common.{[], Global, Vec, ap, map, sym, ◌∙◌, arith, length}
use Rattle.just_syntax.proofs.Successes.{on_ok}
use Rattle.just_syntax.specs.declared.expression.Expression.{Expression}
use Rattle.just_lexer.specs.declared.kind.TokenKind.TheVariants as kinds
use Rattle.just_syntax.specs.View.{view}
use Rattle.just_expression_parser.proofs.Actions.{element_comma, element_last, element_refused}
use Rattle.just_expression_parser.proofs.Steps.{on_err, taken_mark}
use Rattle.just_expression_parser.specs.Machine as machine
use Rattle.just_expression_parser.specs.Parsed.{form_view, goes, left, waiting}
use Rattle.just_expression_parser.specs.declared.machine.Machine.{Machine}
use Rattle.just_expression_parser.proofs.machine.Machine.more_elements.Goals as goal

-- the last element
pub returns-in-Some : goal.returns-in-Some
returns-in-Some c es e all =
    let old = c.args.self.now in
    let new : Machine = record { alloc = old.alloc; cursor = c.take.new.self; frames = old.frames } in
    let taken = rw c.close.ensures at c.in-Some.ensures.some in (
      (
        ap (λ e. (goes new (machine.Done e) []).result) (c.with.ensures ∙ ap (machine.with_elements (form_view c.args.form)) all)
            ∙ sym (element_last (form_view c.args.form) es e (left old) (left new) _ (waiting old) taken),
        omega (arith, ap length taken),
      ),
      tt,
    )

-- a comma
pub returns-in-Ok : goal.returns-in-Ok
returns-in-Ok c es e all =
    let old = c.args.self.now in
    let new : Machine = record { alloc = old.alloc; cursor = c.expect_comma.new.self; frames = old.frames } in
    let form = form_view c.args.form in
    let none = c.in-None.ensures.none in
    let comma = rw none.0 at (on_ok c.expect_comma.result c.in-Ok.ensures.ok.1 c.expect_comma.ensures.ok) in
    let read = element_comma form es e (left old) (left new) (waiting old) (rw c.close.ensures at none.1) comma in (
      (
        ap (λ (v : Vec Expression Global). (goes new (machine.Elements form (map view v.items)) []).result) c.in-Ok.ensures.ok.0
            ∙ ap (λ es. (goes new (machine.Elements form es) []).result) all ∙ sym read,
        omega (arith, taken_mark kinds.Comma (left old) (left new) comma),
      ),
      tt,
    )

pub returns-in-Err : goal.returns-in-Err
returns-in-Err c es e all =
    let old = c.args.self.now in
    let none = c.in-None.ensures.none in
    let at = rw (none.0, c.close-in-None.ensures) at (on_err _ c.expect_comma.result c.in-Err.refusal c.in-Err.ensures.err c.expect_comma.ensures.err) in
    (tt, element_refused (form_view c.args.form) es e (left old) (waiting old) c.in-Err.refusal (rw c.close.ensures at none.1) at.0 at.1)
