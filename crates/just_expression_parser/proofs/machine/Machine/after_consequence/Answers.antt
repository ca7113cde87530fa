use Rattle.std.proofs.Common.{[], ap, refl, sym, arith}
use Rattle.just_lexer.specs.declared.kind.TokenKind.TheVariants as kinds
use Rattle.just_syntax.proofs.Successes.{on_ok}
use Rattle.just_syntax.specs.View.{view}
use Rattle.just_expression_parser.proofs.Actions.{expected_after}
use Rattle.just_expression_parser.proofs.Steps.{refused_on, taken_mark}
use Rattle.just_expression_parser.specs.Machine as machine
use Rattle.just_expression_parser.specs.Parsed.{left, waiting}
use Rattle.just_expression_parser.specs.declared.machine.Machine.{Machine}
use Rattle.just_expression_parser.proofs.machine.Machine.after_consequence.Goals as goal

-- after the branch, the other one
pub returns-in-Ok : goal.returns-in-Ok
returns-in-Ok c =
    let old = c.args.self.now in
    let new : Machine = record { alloc = old.alloc; cursor = c.expect.new.self; frames = old.frames } in
    let less = taken_mark kinds.BraceR (left old) (left new) (on_ok c.expect.result c.in-Ok.ensures.ok.1 c.expect.ensures.ok) in
    let read = expected_after (left old) (left new) (machine.Consequence (view c.args.condition)) (waiting old) (view c.args.consequence) kinds.BraceR
    (machine.Else (view c.args.condition) (view c.args.consequence)) ([]) (λ t. refl) (on_ok c.expect.result c.in-Ok.ensures.ok.1 c.expect.ensures.ok) in
    let parts = c.in-Ok.ensures.ok.0 in
    rw (ap (λ p. p.0) parts, ap (λ p. p.1) parts) ((sym read, omega (arith, less)), tt)

pub returns-in-Err : goal.returns-in-Err
returns-in-Err c = (
  tt,
  refused_on c.expect.result c.in-Err.refusal (left c.args.self.now) (machine.Consequence (view c.args.condition)) (waiting c.args.self.now)
      (view c.args.consequence) kinds.BraceR
      (machine.Else (view c.args.condition) (view c.args.consequence)) ([]) c.in-Err.ensures.err c.expect.ensures.err (λ t. refl) refl,
)
