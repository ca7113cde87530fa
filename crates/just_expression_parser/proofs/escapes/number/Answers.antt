use Rattle.std.proofs.Common.{sym, ◌∙◌, arith}
use Rattle.std.proofs.lemmas.List.{at_drop_all}
use Rattle.just_expression_parser.specs.Literal.{hexadecimal_after}
use Rattle.just_expression_parser.proofs.Unescaped.{digit_refused, digit_taken, five_digits, one_digit_more}
use Rattle.just_expression_parser.proofs.escapes.number.Goals as goal

pub overflow_mul-value : goal.overflow_mul-value
overflow_mul-value c =
    let l = c.loop-byte in
    omega (arith, five_digits l.byte-index l.value (omega arith) l.invariant.small)

pub overflow_add-value : goal.overflow_add-value
overflow_add-value c =
    let l = c.loop-byte in
    omega (arith, five_digits l.byte-index l.value (omega arith) l.invariant.small, c.in_ok-digit.ensures.small)

pub returns-in_err-digit : goal.returns-in_err-digit
returns-in_err-digit c =
    let l = c.loop-byte in
    rw c.from_residual.ensures (digit_refused c.args.digits.now l.byte-index l.value _ (omega arith) c.in_err-digit.ensures.value l.invariant.value)

pub loop-byte-preserved : goal.loop-byte-preserved
loop-byte-preserved c =
    let l = c.loop-byte in
    let d = c.in_ok-digit.digit in
    record {
      value = digit_taken c.args.digits.now l.byte-index l.value d _ (omega arith) c.in_ok-digit.ensures.value l.invariant.value;
      small = one_digit_more l.byte-index l.value d l.invariant.small c.in_ok-digit.ensures.small;
    }

pub returns : goal.returns
returns c =
    let l = c.loop-byte in
    sym (at_drop_all (hexadecimal_after l.value) c.args.digits.now l.byte-index (omega arith)) ∙ l.invariant.value
