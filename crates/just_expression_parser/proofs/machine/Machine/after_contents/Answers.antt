use Rattle.std.proofs.Common.{[], refl, sym, ◌∷◌, arith}
use Rattle.just_lexer.specs.declared.kind.TokenKind.TheVariants as kinds
use Rattle.just_syntax.proofs.Successes.{on_ok}
use Rattle.just_syntax.specs.Plain as plain
use Rattle.just_syntax.specs.View.{view}
use Rattle.just_expression_parser.proofs.Actions.{expected_after}
use Rattle.just_expression_parser.proofs.Steps.{made_on, refused_on, taken_mark}
use Rattle.just_expression_parser.specs.Machine as machine
use Rattle.just_expression_parser.specs.Parsed.{goes, left, waiting}
use Rattle.just_expression_parser.specs.declared.machine.Machine.{Machine}
use Rattle.just_expression_parser.proofs.machine.Machine.after_contents.Goals as goal

pub returns-in-Ok : goal.returns-in-Ok
returns-in-Ok c =
    let old = c.args.self.now in
    let new : Machine = record { alloc = old.alloc; cursor = c.expect.new.self; frames = old.frames } in
    let less = taken_mark kinds.ParenR (left old) (left new) (on_ok c.expect.result c.in-Ok.ensures.ok.1 c.expect.ensures.ok) in
    let read = expected_after (left old) (left new) machine.Group (waiting old) (view c.args.contents) kinds.ParenR
    (machine.Done (plain.Group (view c.args.contents))) [] (λ t. refl) (on_ok c.expect.result c.in-Ok.ensures.ok.1 c.expect.ensures.ok) in
    made_on c.group.result c.allocated.result c.done.result new (goes old (machine.Done (view c.args.contents)) (machine.Group ∷ []))
    (plain.Group (view c.args.contents)) (rw c.in-Ok.ensures.ok.0 at c.group.ensures) c.allocated.ensures.ok c.allocated.ensures.refused c.done.ensures.ok
    c.done.ensures.refused (sym read) (omega (arith, less))

pub returns-in-Err : goal.returns-in-Err
returns-in-Err c = (
  tt,
  refused_on c.expect.result c.in-Err.refusal (left c.args.self.now) machine.Group (waiting c.args.self.now) (view c.args.contents) kinds.ParenR
      (machine.Done (plain.Group (view c.args.contents))) [] c.in-Err.ensures.err c.expect.ensures.err (λ t. refl) refl,
)
