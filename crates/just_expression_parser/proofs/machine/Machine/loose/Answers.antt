use Rattle.std.proofs.Common.{ap, codes, false, inr, sym, true, ◌≡◌, ◌∙◌, arith, length}
use Rattle.just_lexer.specs.declared.kind.TokenKind.TheVariants as kinds
use Rattle.just_expression_parser.proofs.Starts.{if_here, root_here}
use Rattle.just_expression_parser.proofs.Steps.{goes_on, word_taken}
use Rattle.just_expression_parser.specs.Machine as machine
use Rattle.just_expression_parser.specs.Parsed.{IsNotAt, is_at_word, left, tokens, waiting}
use Rattle.just_expression_parser.proofs.machine.Machine.loose.Goals as goal

-- `if`
pub returns-then-take_word : goal.returns-then-take_word
returns-then-take_word c low =
    let there : c.take_word.result ≡ true = c.if-take_word.true in
    let read = if_here c.args.least (left c.args.self.now) (waiting c.args.self.now) low (sym c.take_word.ensures.value ∙ there) in
    goes_on _ _ c.wait_twice.result c.wait_twice.new.self (sym read)
    (omega (arith, word_taken (codes "if") (left c.args.self.now) (sym c.take_word.ensures.value ∙ there)))
    (rw (c.take_word.ensures.taken there) at c.wait_twice.ensures)

-- `/`
pub returns-in-Some : goal.returns-in-Some
returns-in-Some c low =
    let none : c.take_word.result ≡ false = c.if-take_word.false in
    let taken = rw (c.take_word.ensures.stays none) at c.in-Some.ensures.some in
    let read = root_here c.args.least (left c.args.self.now) _ _ (waiting c.args.self.now) low taken in
    goes_on _ _ c.wait_twice-in-Some.result c.wait_twice-in-Some.new.self (sym read) (omega (arith, ap length taken)) c.wait_twice-in-Some.ensures

-- a value
pub returns-in-None : goal.returns-in-None
returns-in-None c low =
    let none : c.take_word.result ≡ false = c.if-take_word.false in
    let same = c.in-None.ensures.none.0 ∙ c.take_word.ensures.stays none in
    let apart = rw (c.take_word.ensures.stays none) at c.in-None.ensures.none.1 in
    let so : (is_at_word (codes "if") (tokens c.take.new.self) ≡ false) × IsNotAt kinds.Slash (tokens c.take.new.self) =
    (rw same (sym c.take_word.ensures.value ∙ none), rw same apart) in
    goes_on _ _ c.operand.result c.operand.new.self (ap (λ ts. machine.parse ts (machine.Expression c.args.least) (waiting c.args.self.now)) same)
    (omega (arith, ap length same)) (c.operand.ensures (inr so))
