use Rattle.std.proofs.Common.{[], ap, sym, ◌∷◌, arith, length}
use Rattle.just_lexer.specs.declared.kind.TokenKind.TheVariants as kinds
use Rattle.just_syntax.proofs.Successes.{on_ok}
use Rattle.just_syntax.specs.Plain as plain
use Rattle.just_syntax.specs.View.{name_view, view}
use Rattle.just_expression_parser.proofs.Actions.{assertion_end, assertion_refused, message_here}
use Rattle.just_expression_parser.proofs.Steps.{goes_on, made_on, on_err, taken_mark}
use Rattle.just_expression_parser.specs.Machine as machine
use Rattle.just_expression_parser.specs.Parsed.{goes, left, waiting}
use Rattle.just_expression_parser.specs.declared.machine.Machine.{Machine}
use Rattle.just_expression_parser.proofs.machine.Machine.after_condition.Goals as goal

-- a comma: the message comes
pub returns-in-Some : goal.returns-in-Some
returns-in-Some c =
    let old = c.args.self.now in
    goes_on _ _ c.wait.result c.wait.new.self (sym (message_here (name_view c.args.name) (view c.args.condition) (left old) _ _ (waiting old)
    c.in-Some.ensures.some)) (omega (arith, ap length c.in-Some.ensures.some)) c.wait.ensures

-- the parenthesis: the assertion is read
pub returns-in-Ok : goal.returns-in-Ok
returns-in-Ok c =
    let old = c.args.self.now in
    let new : Machine = record { alloc = old.alloc; cursor = c.expect.new.self; frames = old.frames } in
    let paren = rw c.in-None.ensures.none.0 at (on_ok c.expect.result c.in-Ok.ensures.ok.1 c.expect.ensures.ok) in
    let read = assertion_end (name_view c.args.name) (view c.args.condition) (left old) (left new) (waiting old) paren in
    made_on c.assert.result c.allocated.result c.done.result new
    (goes old (machine.Done (view c.args.condition)) (machine.Assertion (name_view c.args.name) ∷ []))
    (plain.AssertOnly (view c.args.condition) (name_view c.args.name)) (rw c.in-Ok.ensures.ok.0 at c.assert.ensures) c.allocated.ensures.ok
    c.allocated.ensures.refused c.done.ensures.ok c.done.ensures.refused (sym read)
    (omega (arith, taken_mark kinds.ParenR (left old) (left new) paren))

pub returns-in-Err : goal.returns-in-Err
returns-in-Err c =
    let old = c.args.self.now in
    let none = c.in-None.ensures.none in
    let at = rw none.0 at (on_err _ c.expect.result c.in-Err.refusal c.in-Err.ensures.err c.expect.ensures.err) in
    (tt, assertion_refused (name_view c.args.name) (view c.args.condition) (left old) (waiting old) c.in-Err.refusal none.1 at.0 at.1)
