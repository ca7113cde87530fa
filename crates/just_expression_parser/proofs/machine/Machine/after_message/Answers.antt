use Rattle.std.proofs.Common.{[], ap, refl, sym, ◌∷◌, arith}
use Rattle.just_lexer.specs.declared.kind.TokenKind.TheVariants as kinds
use Rattle.just_syntax.proofs.Successes.{on_ok}
use Rattle.just_syntax.specs.Plain as plain
use Rattle.just_syntax.specs.View.{name_view, view}
use Rattle.just_expression_parser.proofs.Actions.{expected_after}
use Rattle.just_expression_parser.proofs.Steps.{made_on, refused_on, taken_mark}
use Rattle.just_expression_parser.specs.Machine as machine
use Rattle.just_expression_parser.specs.Parsed.{goes, left, waiting}
use Rattle.just_expression_parser.specs.declared.machine.Machine.{Machine}
use Rattle.just_expression_parser.proofs.machine.Machine.after_message.Goals as goal

-- after the message, the assertion is read
pub returns-in-Ok : goal.returns-in-Ok
returns-in-Ok c =
    let old = c.args.self.now in
    let new : Machine = record { alloc = old.alloc; cursor = c.expect.new.self; frames = old.frames } in
    let less = taken_mark kinds.ParenR (left old) (left new) (on_ok c.expect.result c.in-Ok.ensures.ok.1 c.expect.ensures.ok) in
    let read = expected_after (left old) (left new) (machine.Message (view c.args.condition) (name_view c.args.name)) (waiting old) (view c.args.message)
    kinds.ParenR
    (machine.Done (plain.Assert (view c.args.condition) (view c.args.message) (name_view c.args.name))) ([]) (λ t. refl)
    (on_ok c.expect.result c.in-Ok.ensures.ok.1 c.expect.ensures.ok) in
    let parts = c.in-Ok.ensures.ok.0 in
    made_on c.assert.result c.allocated.result c.done.result new
    (goes old (machine.Done (view c.args.message)) (machine.Message (view c.args.condition) (name_view c.args.name) ∷ []))
    (plain.Assert (view c.args.condition) (view c.args.message) (name_view c.args.name)) (rw (ap (λ p. p.0) parts, ap (λ p. p.1) parts) at c.assert.ensures)
    c.allocated.ensures.ok c.allocated.ensures.refused c.done.ensures.ok
    c.done.ensures.refused (sym read) (omega (arith, less))

pub returns-in-Err : goal.returns-in-Err
returns-in-Err c = (
  tt,
  refused_on c.expect.result c.in-Err.refusal (left c.args.self.now) (machine.Message (view c.args.condition) (name_view c.args.name))
      (waiting c.args.self.now) (view c.args.message) kinds.ParenR
      (machine.Done (plain.Assert (view c.args.condition) (view c.args.message) (name_view c.args.name))) ([]) c.in-Err.ensures.err c.expect.ensures.err
      (λ t. refl) refl,
)
