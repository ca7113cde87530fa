use Rattle.std.proofs.Common.{◌≡◌, ◌<◌, length, arith, rules}
use Rattle.just_lexer.specs.Span.{passed}
use Rattle.just_lexer.proofs.Spans.{passes, stops}
use Rattle.just_lexer.proofs.span.span.Goals as goal

pub loop-rest-preserved : goal.loop-rest-preserved
loop-rest-preserved c =
    let l = c.loop-rest in
    let more = passes c.args.rule l.rest.now c.min-more.result (rw c.passed.ensures.value at c.min-more.ensures) c.if-more-eq0.false in
    record {
      same = rw c.split_at.ensures.back (omega (arith, more, l.invariant.same));
      all = omega (arith, c.split_at.ensures.back_len, l.invariant.all);
    }

pub returns-then-more-eq0-clause-value : goal.returns-then-more-eq0-clause-value
returns-then-more-eq0-clause-value c =
    let l = c.loop-rest in
    let some : 0 < length l.rest.now = search rules in
    let none : passed c.args.rule l.rest.now ≡ 0 = omega (arith, c.passed.ensures.value, c.min-more.ensures, some) in
    omega (arith, l.invariant.same, stops c.args.rule l.rest.now none)
