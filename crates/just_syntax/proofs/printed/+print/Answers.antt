use Rattle.std.proofs.Common.{refl, true, ◌∷◌, [], arith, rules}
use Rattle.std.proofs.Output.{has_written_styled_append, has_written_styled_of_eq}
use Rattle.std.proofs.lemmas.Grind.{common_steps}
use Rattle.std.proofs.lemmas.List.{append_assoc}
use Rattle.just_syntax.proofs.Printing.{pieces_end, pieces_on, row_end, row_on}
use Rattle.just_syntax.proofs.Rows.{printed_call_is, printed_format_string, printed_list}
use Rattle.just_syntax.proofs.Styled.{styled_four, styled_steps}
use Rattle.just_syntax.proofs.printed.+print.Goals as goal
use Rattle.just_syntax.proofs.printed.+print.Goals.{print_assert-in-Some+in_ok-write_str-2+in_ok-print-2, print_assert-in_default}

pub print_assert-returns : goal.print_assert-returns
print_assert-returns g t c = λ flush ok.
    let a = c.in_ok-write_str.ensures.styled flush (refl {a = true}) in
    let b = c.in_ok-print.ensures a.flush (refl {a = true}) in
    elim c.match-message.branch [
      | print_assert-in-Some+in_ok-write_str-2+in_ok-print-2 w ↦
          let d = w.in_ok-write_str-2.ensures.styled b.flush (refl {a = true}) in
          let e = w.in_ok-print-2.ensures d.flush (refl {a = true}) in
          let last = c.write_str-2.ensures.styled (rw w.f-is e.flush) ok in
          grind (arith, styled_steps, common_steps)
      | print_assert-in_default w ↦
          let last = c.write_str-2.ensures.styled (rw w.f-is b.flush) ok in
          grind (arith, styled_steps, common_steps)
    ]

pub print_conditional-returns-in_ok-print_after-in-Some : goal.print_conditional-returns-in_ok-print_after-in-Some
print_conditional-returns-in_ok-print_after-in-Some g t c = λ flush ok.
    let a = c.in_ok-print_after.ensures flush (refl {a = true}) in
    let b = c.in_ok-print_after-2.ensures a.flush (refl {a = true}) in
    let d = c.in_ok-print_after-in-Some.ensures b.flush (refl {a = true}) in
    styled_four g.W.Write.write_str_gives _ _ _ _ _ _ _ _ _ _ a b d (c.write_str.ensures.styled d.flush ok) (search (rules, append_assoc))

pub print-returns-in-FormatString : goal.print-returns-in-FormatString
print-returns-in-FormatString g t c = rw (c.in-FormatString.is, printed_format_string, ← c.deref-in-FormatString.ensures.value) c.print_format_string.ensures

pub print-returns-in-Call : goal.print-returns-in-Call
print-returns-in-Call g t c = rw (c.in-Call.is, printed_call_is, ← c.deref-in-Call.ensures.value) c.print_call.ensures

pub print-returns-in-List : goal.print-returns-in-List
print-returns-in-List g t c = rw (c.in-List.is, printed_list, ← c.deref-in-List.ensures.value) c.print_list.ensures

pub print_format_string-loop-expression-preserved : goal.print_format_string-loop-expression-preserved
print_format_string-loop-expression-preserved g t c = λ flush.
    let so_far = c.loop-expression.invariant flush in
    let value = c.in_ok-print.ensures so_far.2.flush (refl {a = true}) in
    let literal = c.in_ok-write_str-2.ensures.styled value.flush (refl {a = true}) in (
      _,
      pieces_on so_far.0 _ c.args.expressions.now c.loop-expression.expression-index c.loop-expression-item.result c.loop-expression-test.true
          c.loop-expression-item.is so_far.1,
      has_written_styled_append g.W.Write.write_str_gives _ _ _ _ _ so_far.2 (has_written_styled_append g.W.Write.write_str_gives _ _ _ _ _ value literal),
    )

pub print_format_string-returns : goal.print_format_string-returns
print_format_string-returns g t c = λ flush ok.
    let start = c.in_ok-write_str.ensures.styled flush (refl {a = true}) in
    let pieces = c.loop-expression.invariant start.flush in
    has_written_styled_append g.W.Write.write_str_gives _ _ _ _ _ start
    (has_written_styled_of_eq g.W.Write.write_str_gives _ _ _ _ (pieces_end pieces.0 _ c.args.expressions.now c.loop-expression.expression-index
    c.loop-expression-test.false pieces.1) pieces.2)

pub print_row-loop-expression-preserved : goal.print_row-loop-expression-preserved
unfolding lib.Utf8.encode
print_row-loop-expression-preserved g t c = record {
  separator = (44 ∷ 32 ∷ [], (refl, refl));
  written = λ flush.
      let so_far = c.loop-expression.invariant.written flush in
      let separator = c.in_ok-write_str.ensures.styled so_far.2.flush (refl {a = true}) in
      let value = c.in_ok-print.ensures separator.flush (refl {a = true}) in (
        _,
        row_on so_far.0 _ _ c.args.expressions.now c.loop-expression.expression-index c.expression-item.result c.loop-expression-test.true
            c.expression-item.is so_far.1,
        has_written_styled_append g.W.Write.write_str_gives _ _ _ _ _ so_far.2 (has_written_styled_append g.W.Write.write_str_gives _ _ _ _ _ separator value),
      );
}

pub print_row-returns : goal.print_row-returns
print_row-returns g t c = λ flush ok.
    let row = c.loop-expression.invariant.written flush in
    has_written_styled_of_eq g.W.Write.write_str_gives _ _ _ _ (row_end row.0 _ _ c.args.expressions.now c.loop-expression.expression-index
    c.loop-expression-test.false row.1) row.2
