use Rattle.std.proofs.Common.{None, Some, lit<}
use Rattle.std.proofs.lemmas.Str.Pattern.{split_parts, strip_prefix_char}
use Rattle.just_expression_parser.proofs.Unescaped.{braced, braced_shorter, no_brace, one_brace}
use Rattle.just_expression_parser.proofs.escapes.unicode.Goals as goal

pub returns-in_err-inner-clause-none : goal.returns-in_err-inner-clause-none
returns-in_err-inner-clause-none c =
    let text = c.args.text.now in
    rw c.from_residual.ensures (no_brace text (strip_prefix_char 123 text None c.in_err-inner.ensures.cases (lit< tt)))

pub returns-in_err-digits-clause-none : goal.returns-in_err-digits-clause-none
returns-in_err-digits-clause-none c =
    let inner = c.in_ok-inner.inner in
    let open_is = strip_prefix_char 123 c.args.text.now (Some inner) c.in_ok-inner.ensures.cases (lit< tt) in
    rw c.from_residual-in_err-digits.ensures
    (one_brace c.args.text.now inner.now open_is (split_parts 125 inner.now None c.in_err-digits.ensures.cases (lit< tt)))

pub returns-in_err-c-clause-none : goal.returns-in_err-c-clause-none
returns-in_err-c-clause-none c =
    let inner = c.in_ok-inner.inner in
    let d = c.in_ok-digits in
    let open_is = strip_prefix_char 123 c.args.text.now (Some inner) c.in_ok-inner.ensures.cases (lit< tt) in
    let cut = split_parts 125 inner.now (Some (d.digits, d.rest)) d.ensures.cases (lit< tt) in
    rw c.from_residual-in_err-c.ensures
    (braced c.args.text.now inner.now d.digits.now d.rest.now None open_is cut (rw c.as_bytes.ensures.value at c.in_err-c.ensures))

pub returns-clause-some : goal.returns-clause-some
returns-clause-some c =
    let inner = c.in_ok-inner.inner in
    let d = c.in_ok-digits in
    let open_is = strip_prefix_char 123 c.args.text.now (Some inner) c.in_ok-inner.ensures.cases (lit< tt) in
    let cut = split_parts 125 inner.now (Some (d.digits, d.rest)) d.ensures.cases (lit< tt) in
    braced c.args.text.now inner.now d.digits.now d.rest.now (Some c.in_ok-c.c) open_is cut (rw c.as_bytes.ensures.value at c.in_ok-c.ensures)

pub returns-clause-shorter : goal.returns-clause-shorter
returns-clause-shorter c =
    let inner = c.in_ok-inner.inner in
    let d = c.in_ok-digits in
    let open_is = strip_prefix_char 123 c.args.text.now (Some inner) c.in_ok-inner.ensures.cases (lit< tt) in
    let cut = split_parts 125 inner.now (Some (d.digits, d.rest)) d.ensures.cases (lit< tt) in
    braced_shorter c.args.text.now inner.now d.digits.now d.rest.now open_is cut.0
