use Rattle.std.proofs.Common.{[], ap, refl, sym, ◌∷◌, arith}
use Rattle.just_lexer.specs.declared.kind.TokenKind.TheVariants as kinds
use Rattle.just_syntax.proofs.Successes.{on_ok}
use Rattle.just_syntax.specs.Plain as plain
use Rattle.just_syntax.specs.View.{view}
use Rattle.just_expression_parser.proofs.Actions.{expected_after}
use Rattle.just_expression_parser.proofs.Steps.{refused_on, state_on, taken_mark}
use Rattle.just_expression_parser.specs.Machine as machine
use Rattle.just_expression_parser.specs.Parsed.{goes, left, waiting}
use Rattle.just_expression_parser.specs.declared.machine.Machine.{Machine}
use Rattle.just_expression_parser.proofs.machine.Machine.after_branch.Goals as goal

-- after the other branch, the conditional is read
pub returns-in-Ok : goal.returns-in-Ok
returns-in-Ok c =
    let old = c.args.self.now in
    let new : Machine = record { alloc = old.alloc; cursor = c.expect.new.self; frames = old.frames } in
    let less = taken_mark kinds.BraceR (left old) (left new) (on_ok c.expect.result c.in-Ok.ensures.ok.1 c.expect.ensures.ok) in
    let read = expected_after (left old) (left new) (machine.Otherwise (view c.args.condition) (view c.args.consequence)) (waiting old)
    (view c.args.otherwise) kinds.BraceR
    (machine.Done (plain.Conditional (view c.args.condition) (view c.args.consequence) (view c.args.otherwise))) ([]) (λ t. refl)
    (on_ok c.expect.result c.in-Ok.ensures.ok.1 c.expect.ensures.ok) in
    let parts = c.in-Ok.ensures.ok.0 in
    let made = rw (ap (λ p. p.0) parts, ap (λ p. p.1) parts, ap (λ p. p.2) parts) at c.conditional.ensures in
    state_on c.conditional.result new (goes old (machine.Done (view c.args.otherwise))
    (machine.Otherwise (view c.args.condition) (view c.args.consequence) ∷ []))
    (plain.Conditional (view c.args.condition) (view c.args.consequence) (view c.args.otherwise)) made.ok made.refused (sym read) (omega (arith, less))

pub returns-in-Err : goal.returns-in-Err
returns-in-Err c = (
  tt,
  refused_on c.expect.result c.in-Err.refusal (left c.args.self.now) (machine.Otherwise (view c.args.condition) (view c.args.consequence))
      (waiting c.args.self.now) (view c.args.otherwise) kinds.BraceR
      (machine.Done (plain.Conditional (view c.args.condition) (view c.args.consequence) (view c.args.otherwise))) ([]) c.in-Err.ensures.err
      c.expect.ensures.err (λ t. refl) refl,
)
