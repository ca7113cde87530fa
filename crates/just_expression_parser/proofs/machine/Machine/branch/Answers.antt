use Rattle.std.proofs.Common.{ap, false, sym, true, ◌≡◌, ◌∙◌, arith, codes}
use Rattle.just_lexer.specs.declared.kind.TokenKind.TheVariants as kinds
use Rattle.just_syntax.proofs.Successes.{on_ok}
use Rattle.just_syntax.specs.View.{view}
use Rattle.just_expression_parser.proofs.Starts.{braced_here, chained_here, unbraced_here}
use Rattle.just_expression_parser.proofs.Steps.{goes_on, on_err, taken_mark, word_taken}
use Rattle.just_expression_parser.specs.Parsed.{left, waiting}
use Rattle.just_expression_parser.proofs.machine.Machine.branch.Goals as goal

-- another conditional
pub returns-then-take_word : goal.returns-then-take_word
returns-then-take_word c =
    let there : c.take_word.result ≡ true = c.if-take_word.true in
    let read = chained_here (view c.args.condition) (view c.args.consequence) (left c.args.self.now) (waiting c.args.self.now)
    (sym c.take_word.ensures.value ∙ there) in
    goes_on _ _ c.wait_twice.result c.wait_twice.new.self (sym read)
    (omega (arith, word_taken (codes "if") (left c.args.self.now) (sym c.take_word.ensures.value ∙ there)))
    (rw (c.take_word.ensures.taken there) at c.wait_twice.ensures)

-- a branch in braces
pub returns-in-Ok : goal.returns-in-Ok
returns-in-Ok c =
    let none : c.take_word.result ≡ false = c.if-take_word.false in
    let parts = c.in-Ok.ensures.ok.0 in
    let brace = rw (c.take_word.ensures.stays none) at (on_ok c.expect.result c.in-Ok.ensures.ok.1 c.expect.ensures.ok) in
    let read = braced_here (view c.args.condition) (view c.args.consequence) (left c.args.self.now) _ (waiting c.args.self.now)
    (sym c.take_word.ensures.value ∙ none) brace in
    goes_on _ _ c.wait.result c.wait.new.self (sym read) (omega (arith, taken_mark kinds.BraceL (left c.args.self.now) _ brace))
    (rw (ap (λ p. p.0) parts, ap (λ p. p.1) parts) at c.wait.ensures)

pub returns-in-Err : goal.returns-in-Err
returns-in-Err c =
    let none : c.take_word.result ≡ false = c.if-take_word.false in
    let at = rw (c.take_word.ensures.stays none) at (on_err _ c.expect.result c.in-Err.refusal c.in-Err.ensures.err c.expect.ensures.err) in (
      tt,
      unbraced_here (view c.args.condition) (view c.args.consequence) (left c.args.self.now) (waiting c.args.self.now) c.in-Err.refusal
          (sym c.take_word.ensures.value ∙ none) at.0 at.1,
    )
