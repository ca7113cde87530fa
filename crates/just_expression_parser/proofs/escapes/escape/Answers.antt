use Rattle.std.proofs.Common.{None, Some, arith, ap, length}
use Rattle.just_expression_parser.proofs.Unescaped.{no_escape, one_byte, unicode_is}
use Rattle.just_expression_parser.proofs.escapes.escape.Goals as goal

pub returns-in_err-byte-clause-none : goal.returns-in_err-byte-clause-none
returns-in_err-byte-clause-none c = rw c.from_residual.ensures (no_escape c.args.text.now c.in_err-byte.ensures.none)

pub returns-in_err-c-clause-none : goal.returns-in_err-c-clause-none
returns-in_err-c-clause-none c =
    let b = c.in_ok-byte in
    rw c.from_residual-in_err-c.ensures (unicode_is c.args.text.now b.byte b.rest.now None b.ensures.some c.if-byte-eq117.true c.in_err-c.ensures.none)

pub returns-then-byte-eq117-clause-some : goal.returns-then-byte-eq117-clause-some
returns-then-byte-eq117-clause-some c =
    let b = c.in_ok-byte in
    unicode_is c.args.text.now b.byte b.rest.now _ b.ensures.some c.if-byte-eq117.true c.in_ok-c.ensures.some

pub returns-then-byte-eq117-clause-shorter : goal.returns-then-byte-eq117-clause-shorter
returns-then-byte-eq117-clause-shorter c = omega (arith, ap length c.in_ok-byte.ensures.some, c.in_ok-c.ensures.shorter)

pub returns-in_err-meant-clause-none : goal.returns-in_err-meant-clause-none
returns-in_err-meant-clause-none c =
    let b = c.in_ok-byte in
    rw c.from_residual-in_err-meant.ensures (one_byte c.args.text.now b.byte b.rest.now None b.ensures.some c.if-byte-eq117.false c.in_err-meant.ensures)

pub returns-clause-some : goal.returns-clause-some
returns-clause-some c =
    let b = c.in_ok-byte in
    one_byte c.args.text.now b.byte b.rest.now (Some c.in_ok-meant.meant) b.ensures.some c.if-byte-eq117.false c.in_ok-meant.ensures

pub returns-clause-shorter : goal.returns-clause-shorter
returns-clause-shorter c = omega (arith, ap length c.in_ok-byte.ensures.some)
