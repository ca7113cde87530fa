use Rattle.std.proofs.Common.{◌≡◌, ◌∙◌, ◌++◌, ◌∷◌, [], true, false, not, ap, arith, length, map, None, Some, sym, refl, subst, string_bytes}
use Rattle.std.proofs.lemmas.Grind.{common_steps}
use Rattle.std.proofs.lemmas.List.{append_assoc, append-nil}
use Rattle.just_syntax.specs.Printed.{printed}
use Rattle.just_syntax.specs.StringContext as contexts
use Rattle.just_expression.specs.Prelude.{BuiltIn, Defined, Gave, ListInStringContext, frames_view, from_condition, function_view, is_regex, joined, look}
use Rattle.just_expression.specs.Prelude.{meaning, name_view, parameter_view, program, reached_view, requires_text, situation, unindented_if, view}
use Rattle.just_expression.specs.Prelude.{with_parameters}
use Rattle.just_value.specs.Value.{is_truthy}
use Rattle.just_interaction.proofs.Paths.{runs_done, runs_else, runs_ends, runs_gives, runs_on, runs_shut, runs_stopped, runs_then}
use Rattle.just_expression.proofs.Exits.{runs_exit}
use Rattle.just_expression.proofs.Calls.{body_runs, call_ends, call_refused, call_runs, inside_is, looked_at}
use Rattle.just_expression.proofs.Leaves.{not_both}
use Rattle.just_expression.proofs.Rows.{call_is, flatten_more, format_string_is, list_is, pieces_all, pieces_cut, pieces_end, pieces_next, pieces_start}
use Rattle.just_expression.proofs.Rows.{row_all, row_cut, row_ends, row_next, row_start}
use Rattle.just_expression.proofs.Texts.{more_texts}
use Rattle.just_expression.proofs.evaluator.ExpressionEvaluator.+evaluate.Goals.{evaluate_assert-in-Some+in_ok-value-in-Some+in_ok-message-in-Some}
use Rattle.just_expression.proofs.evaluator.ExpressionEvaluator.+evaluate.Goals.{evaluate_assert-in-None+in_ok-message-in-None}
use Rattle.just_expression.proofs.evaluator.ExpressionEvaluator.+evaluate.Goals.{evaluate_conditional-then-is_truthy, evaluate_conditional-else-is_truthy}
use Rattle.just_expression.proofs.evaluator.ExpressionEvaluator.+evaluate.Goals as goal

-- ---- `lhs && rhs`, `lhs || rhs`

pub evaluate_and-returns-in_err-value : goal.evaluate_and-returns-in_err-value
evaluate_and-returns-in_err-value g t c = runs_exit _ _ _ c.from_residual.ensures.1 (runs_ends _ _ _ c.in_err-value.ensures)

pub evaluate_and-returns-then-is_truthy : goal.evaluate_and-returns-then-is_truthy
evaluate_and-returns-then-is_truthy g t c =
    let some : is_truthy c.in_ok-value.value ≡ true = cc in
    runs_on _ _ c.in_ok-value.ensures (runs_then _ _ _ some c.evaluate_value-then-is_truthy.ensures)

pub evaluate_and-returns : goal.evaluate_and-returns
evaluate_and-returns g t c =
    let none : is_truthy c.in_ok-value.value ≡ false = cc in
    rw c.new.ensures (runs_on _ _ c.in_ok-value.ensures (runs_else _ _ _ none (runs_gives _)))

pub evaluate_or-returns-in_err-value : goal.evaluate_or-returns-in_err-value
evaluate_or-returns-in_err-value g t c = runs_exit _ _ _ c.from_residual.ensures.1 (runs_ends _ _ _ c.in_err-value.ensures)

pub evaluate_or-returns-then-is_truthy : goal.evaluate_or-returns-then-is_truthy
evaluate_or-returns-then-is_truthy g t c =
    let some : is_truthy c.in_ok-value.value ≡ true = cc in
    runs_on _ _ c.in_ok-value.ensures (runs_then _ _ _ some (runs_gives _))

pub evaluate_or-returns : goal.evaluate_or-returns
evaluate_or-returns g t c =
    let none : is_truthy c.in_ok-value.value ≡ false = cc in
    runs_on _ _ c.in_ok-value.ensures (runs_else _ _ _ none c.evaluate_value-else-is_truthy.ensures)

-- ---- `!operand`

pub evaluate_not-returns-in_err-value : goal.evaluate_not-returns-in_err-value
evaluate_not-returns-in_err-value g t c = runs_exit _ _ _ c.from_residual.ensures.1 (runs_ends _ _ _ c.in_err-value.ensures)

pub evaluate_not-returns-in_err-from_bool : goal.evaluate_not-returns-in_err-from_bool
evaluate_not-returns-in_err-from_bool g t c = runs_exit _ _ _ c.from_residual-in_err-from_bool.ensures.1 (runs_on _ _ c.in_ok-value.ensures (runs_stopped _))

pub evaluate_not-returns : goal.evaluate_not-returns
evaluate_not-returns g t c =
    runs_on _ _ c.in_ok-value.ensures (runs_done _ _ (ap Gave (c.in_ok-from_bool.ensures ∙ ap (λ b. from_condition (not b)) c.is_truthy.ensures)))

-- ---- comparisons

pub evaluate_comparison-returns-in_err-left : goal.evaluate_comparison-returns-in_err-left
evaluate_comparison-returns-in_err-left g t c =
    let plain : is_regex c.args.operator ≡ false = cc in
    runs_else _ _ _ plain (runs_exit _ _ _ c.from_residual.ensures.1 (runs_ends _ _ _ c.in_err-left.ensures))

pub evaluate_comparison-returns-in_err-right : goal.evaluate_comparison-returns-in_err-right
evaluate_comparison-returns-in_err-right g t c =
    let plain : is_regex c.args.operator ≡ false = cc in
    runs_else _ _ _ plain (runs_on _ _ c.in_ok-left.ensures (runs_exit _ _ _ c.from_residual-in_err-right.ensures.1 (runs_ends _ _ _ c.in_err-right.ensures)))

pub evaluate_comparison-returns : goal.evaluate_comparison-returns
evaluate_comparison-returns g t c =
    let plain : is_regex c.args.operator ≡ false = cc in
    let given = rw (c.elements.ensures, c.elements-2.ensures) at c.compared.ensures in
    runs_else _ _ _ plain (runs_on _ _ c.in_ok-left.ensures (runs_on _ _ c.in_ok-right.ensures (runs_done _ _ given)))

pub evaluate_comparison-returns-then-is_regex : goal.evaluate_comparison-returns-then-is_regex
evaluate_comparison-returns-then-is_regex g t c =
    let regex : is_regex c.args.operator ≡ true = cc in
    runs_then _ _ _ regex (runs_done _ _ refl)

-- ---- conditionals

pub evaluate_conditional-returns-in_err-value : goal.evaluate_conditional-returns-in_err-value
evaluate_conditional-returns-in_err-value g t c = runs_exit _ _ _ c.from_residual.ensures.1 (runs_ends _ _ _ c.in_err-value.ensures)

pub evaluate_conditional-returns-in-Some : goal.evaluate_conditional-returns-in-Some
evaluate_conditional-returns-in-Some g t c = elim c.if-is_truthy.branch [
  | evaluate_conditional-then-is_truthy w ↦
      let some : is_truthy c.in_ok-value.value ≡ true = cc in
      let same : c.in-Some.taken ≡ c.args.consequence = cc in
      runs_on _ _ c.in_ok-value.ensures (runs_then _ _ _ some (rw (← same) c.evaluate_value-in-Some.ensures))
  | evaluate_conditional-else-is_truthy w ↦
      let none : is_truthy c.in_ok-value.value ≡ false = cc in
      let same : c.args.otherwise ≡ Some c.in-Some.taken = cc in
      rw same (runs_on _ _ c.in_ok-value.ensures (runs_else _ _ _ none c.evaluate_value-in-Some.ensures))
]

pub evaluate_conditional-returns : goal.evaluate_conditional-returns
evaluate_conditional-returns g t c = elim c.if-is_truthy.branch [
  | evaluate_conditional-then-is_truthy w ↦ not_both _ _ w.taken-is c.in-None.is
  | evaluate_conditional-else-is_truthy w ↦
      let none : is_truthy c.in_ok-value.value ≡ false = cc in
      let same : c.args.otherwise ≡ None = cc in
      rw (same, c.new.ensures) (runs_on _ _ c.in_ok-value.ensures (runs_else _ _ _ none (runs_gives _)))
]

-- ---- two values combined

pub evaluate_combination-returns-in_err-left : goal.evaluate_combination-returns-in_err-left
evaluate_combination-returns-in_err-left g t c = runs_exit _ _ _ c.from_residual.ensures.1 (runs_ends _ _ _ c.in_err-left.ensures)

pub evaluate_combination-returns-in-Some : goal.evaluate_combination-returns-in-Some
evaluate_combination-returns-in-Some g t c =
    let right = rw c.in-Some.is at c.texts_in_place.ensures in
    runs_on _ _ c.in_ok-left.ensures (runs_on _ _ right (runs_done _ _ c.applied.ensures))

pub evaluate_combination-returns-in_err-right : goal.evaluate_combination-returns-in_err-right
evaluate_combination-returns-in_err-right g t c =
    runs_on _ _ c.in_ok-left.ensures (runs_exit _ _ _ c.from_residual-in_err-right.ensures.1 (runs_ends _ _ _ c.in_err-right.ensures))

pub evaluate_combination-returns : goal.evaluate_combination-returns
evaluate_combination-returns g t c =
    runs_on _ _ c.in_ok-left.ensures (runs_on _ _ c.in_ok-right.ensures (runs_done _ _ (rw c.elements.ensures at c.applied-2.ensures)))

pub evaluate_list_concatenation-returns-in_err-left : goal.evaluate_list_concatenation-returns-in_err-left
evaluate_list_concatenation-returns-in_err-left g t c = runs_exit _ _ _ c.from_residual.ensures.1 (runs_ends _ _ _ c.in_err-left.ensures)

pub evaluate_list_concatenation-returns-in_err-right : goal.evaluate_list_concatenation-returns-in_err-right
evaluate_list_concatenation-returns-in_err-right g t c =
    runs_on _ _ c.in_ok-left.ensures (runs_exit _ _ _ c.from_residual-in_err-right.ensures.1 (runs_ends _ _ _ c.in_err-right.ensures))

pub evaluate_list_concatenation-returns-in_err-extended : goal.evaluate_list_concatenation-returns-in_err-extended
evaluate_list_concatenation-returns-in_err-extended g t c =
    runs_exit _ _ _ c.from_residual-in_err-extended.ensures.1 (runs_on _ _ c.in_ok-left.ensures (runs_on _ _ c.in_ok-right.ensures (runs_stopped _)))

pub evaluate_list_concatenation-returns : goal.evaluate_list_concatenation-returns
evaluate_list_concatenation-returns g t c =
    runs_on _ _ c.in_ok-left.ensures (runs_on _ _ c.in_ok-right.ensures (runs_done _ _ (ap Gave c.in_ok-extended.ensures)))

-- ---- assertions

pub evaluate_assert-returns-in_err-value : goal.evaluate_assert-returns-in_err-value
evaluate_assert-returns-in_err-value g t c = runs_exit _ _ _ c.from_residual.ensures.1 (runs_ends _ _ _ c.in_err-value.ensures)

pub evaluate_assert-returns-in_err-asserted : goal.evaluate_assert-returns-in_err-asserted
evaluate_assert-returns-in_err-asserted g t c = runs_exit _ _ _ c.from_residual-in_err-asserted.ensures.1 (runs_on _ _ c.in_ok-value.ensures (runs_stopped _))

pub evaluate_assert-returns-then-is_truthy : goal.evaluate_assert-returns-then-is_truthy
evaluate_assert-returns-then-is_truthy g t c =
    let some : is_truthy c.in_ok-value.value ≡ true = cc in
    runs_on _ _ c.in_ok-value.ensures (runs_then _ _ _ some (runs_done _ _ (ap Gave c.in_ok-asserted.ensures)))

pub evaluate_assert-returns-in_err-value-in-Some : goal.evaluate_assert-returns-in_err-value-in-Some
evaluate_assert-returns-in_err-value-in-Some g t c =
    let none : is_truthy c.in_ok-value.value ≡ false = cc in
    rw c.in-Some.is
    (runs_on _ _ c.in_ok-value.ensures
    (runs_else _ _ _ none
    (runs_exit _ _ _ c.from_residual-in_err-value-in-Some.ensures.1 (runs_ends _ _ _ (runs_ends _ _ _ c.in_err-value-in-Some.ensures)))))

pub evaluate_assert-returns-in_err-message-in-Some : goal.evaluate_assert-returns-in_err-message-in-Some
evaluate_assert-returns-in_err-message-in-Some g t c =
    let none : is_truthy c.in_ok-value.value ≡ false = cc in
    runs_exit _ _ _ c.from_residual-in_err-message-in-Some.ensures.1
    (rw c.in-Some.is
    (runs_on _ _ c.in_ok-value.ensures (runs_else _ _ _ none (runs_ends _ _ None (runs_on _ _ c.in_ok-value-in-Some.ensures (runs_stopped _))))))

pub evaluate_assert-returns-in_err-message-in-None : goal.evaluate_assert-returns-in_err-message-in-None
evaluate_assert-returns-in_err-message-in-None g t c =
    let none : is_truthy c.in_ok-value.value ≡ false = cc in
    runs_exit _ _ _ c.from_residual-in_err-message-in-None.ensures.1
    (rw c.in-None.is (runs_on _ _ c.in_ok-value.ensures (runs_else _ _ _ none (runs_stopped _))))

pub evaluate_assert-returns : goal.evaluate_assert-returns
evaluate_assert-returns g t c = elim c.match-message.branch [
  | evaluate_assert-in-Some+in_ok-value-in-Some+in_ok-message-in-Some w ↦
      let none : is_truthy c.in_ok-value.value ≡ false = cc in
      let text : string_bytes c.match-message.message ≡ joined w.in_ok-value-in-Some.value = rw w.message-is w.in_ok-message-in-Some.ensures in
      rw (w.in-Some.is, text, w.host-is)
      (runs_on _ _ c.in_ok-value.ensures
      (runs_else _ _ _ none (runs_on _ _ (runs_on _ _ w.in_ok-value-in-Some.ensures (runs_gives _)) (runs_done _ _ refl))))
  | evaluate_assert-in-None+in_ok-message-in-None w ↦
      let none : is_truthy c.in_ok-value.value ≡ false = cc in
      let text : string_bytes c.match-message.message ≡ (96 ∷ printed (view c.args.condition.now)) ++ 96 ∷ [] =
      rw w.message-is w.in_ok-message-in-None.ensures.text in
      rw (w.in-None.is, text, w.host-is) (runs_on _ _ c.in_ok-value.ensures (runs_else _ _ _ none (runs_done _ _ refl)))
]

-- ---- lists

pub evaluate_value-returns-in-List : goal.evaluate_value-returns-in-List
evaluate_value-returns-in-List g t c =
    rw (c.in-List.is, list_is, ← c.deref-in-List.ensures.value) c.evaluate_list.ensures

pub evaluate_list-loop-element-init : goal.evaluate_list-loop-element-init
evaluate_list-loop-element-init g t c = ([], c.new-all.ensures, row_start)

pub evaluate_list-returns-in_err-value : goal.evaluate_list-returns-in_err-value
evaluate_list-returns-in_err-value g t c =
    runs_exit _ _ _ c.from_residual.ensures.1
    (runs_ends _ _ _ (row_ends c.loop-element.invariant.2 c.loop-element-test.true c.element-item.is _ (runs_ends _ _ _ c.in_err-value.ensures)))

pub evaluate_list-returns-in_err-all : goal.evaluate_list-returns-in_err-all
evaluate_list-returns-in_err-all g t c =
    runs_exit _ _ _ c.from_residual-in_err-all.ensures.1
    (runs_ends _ _ None (row_cut c.loop-element.invariant.2 c.loop-element-test.true c.element-item.is _
    (runs_on _ _ c.in_ok-value.ensures (runs_gives _))))

pub evaluate_list-loop-element-preserved : goal.evaluate_list-loop-element-preserved
evaluate_list-loop-element-preserved g t c =
    let made = c.loop-element.invariant.0 in
    let value = c.in_ok-value.value in (
      made ++ value ∷ [],
      c.in_ok-all.ensures ∙ ap (λ all. all ++ value) c.loop-element.invariant.1 ∙ sym (flatten_more made value),
      row_next c.loop-element.invariant.2 c.loop-element-test.true c.element-item.is value (runs_on _ _ c.in_ok-value.ensures (runs_gives _)),
    )

pub evaluate_list-returns : goal.evaluate_list-returns
evaluate_list-returns g t c =
    runs_on _ _ (row_all c.loop-element.invariant.2 c.loop-element-test.false)
    (runs_done _ _ (ap Gave c.loop-element.invariant.1))

-- ---- format strings

pub evaluate_value-returns-in-FormatString : goal.evaluate_value-returns-in-FormatString
evaluate_value-returns-in-FormatString g t c =
    rw (c.in-FormatString.is, format_string_is, ← c.deref-in-FormatString.ensures.value) c.evaluate_format_string.ensures

pub evaluate_format_string-returns-in_err-text : goal.evaluate_format_string-returns-in_err-text
evaluate_format_string-returns-in_err-text g t c = runs_exit _ _ _ c.from_residual.ensures.1 (runs_stopped _)

pub evaluate_format_string-loop-expression-init : goal.evaluate_format_string-loop-expression-init
evaluate_format_string-loop-expression-init g t c = ([], c.in_ok-text.ensures.ok ∙ c.deref.ensures ∙ sym (append-nil _), pieces_start)

pub evaluate_format_string-returns-in_err-value : goal.evaluate_format_string-returns-in_err-value
evaluate_format_string-returns-in_err-value g t c =
    runs_exit _ _ _ c.from_residual-in_err-value.ensures.1
    (runs_ends _ _ _ (pieces_end c.loop-expression.invariant.2 c.loop-expression-test.true c.loop-expression-item.is _ c.in_err-value.ensures))

pub evaluate_format_string-returns-in_err-join : goal.evaluate_format_string-returns-in_err-join
evaluate_format_string-returns-in_err-join g t c =
    runs_exit _ _ _ c.from_residual-in_err-join.ensures.1
    (runs_ends _ _ None (pieces_cut c.loop-expression.invariant.2 c.loop-expression-test.true c.loop-expression-item.is _ c.in_ok-value.ensures))

pub evaluate_format_string-returns-in_err-push_str : goal.evaluate_format_string-returns-in_err-push_str
evaluate_format_string-returns-in_err-push_str g t c =
    runs_exit _ _ _ c.from_residual-in_err-push_str.ensures.1
    (runs_ends _ _ None (pieces_cut c.loop-expression.invariant.2 c.loop-expression-test.true c.loop-expression-item.is _ c.in_ok-value.ensures))

pub evaluate_format_string-returns-in_err-push_str-2 : goal.evaluate_format_string-returns-in_err-push_str-2
evaluate_format_string-returns-in_err-push_str-2 g t c =
    runs_exit _ _ _ c.from_residual-in_err-push_str-2.ensures.1
    (runs_ends _ _ None (pieces_cut c.loop-expression.invariant.2 c.loop-expression-test.true c.loop-expression-item.is _ c.in_ok-value.ensures))

pub evaluate_format_string-loop-expression-preserved : goal.evaluate_format_string-loop-expression-preserved
evaluate_format_string-loop-expression-preserved g t c =
    let made = c.loop-expression.invariant.0 in
    let text = joined c.in_ok-value.value ++ c.loop-expression-item.result.1.cooked in (
      made ++ text,
      rw (
        c.in_ok-push_str-2.ensures.bytes,
        c.in_ok-push_str.ensures.bytes,
        c.loop-expression.invariant.1,
        c.deref-in-loop-expression.ensures,
        c.deref-in-loop-expression-2.ensures,
        c.in_ok-join.ensures,
      ) (simp append_assoc),
      pieces_next c.loop-expression.invariant.2 c.loop-expression-test.true c.loop-expression-item.is c.in_ok-value.value c.in_ok-value.ensures,
    )

pub evaluate_format_string-returns-in_err-text-2 : goal.evaluate_format_string-returns-in_err-text-2
evaluate_format_string-returns-in_err-text-2 g t c =
    runs_exit _ _ _ c.from_residual-in_err-text-2.ensures.1
    (runs_on _ _ (pieces_all c.loop-expression.invariant.2 c.loop-expression-test.false) (runs_stopped _))

pub evaluate_format_string-returns-in_err-from_string : goal.evaluate_format_string-returns-in_err-from_string
evaluate_format_string-returns-in_err-from_string g t c =
    runs_exit _ _ _ c.from_residual-in_err-from_string.ensures.1
    (runs_on _ _ (pieces_all c.loop-expression.invariant.2 c.loop-expression-test.false) (runs_stopped _))

pub evaluate_format_string-returns : goal.evaluate_format_string-returns
evaluate_format_string-returns g t c =
    runs_on _ _ (pieces_all c.loop-expression.invariant.2 c.loop-expression-test.false)
    (runs_done _ _
    (ap Gave (c.in_ok-from_string.ensures
    ∙ ap (λ text. text ∷ []) (c.in_ok-text-2.ensures ∙ ap (unindented_if c.args.start.now.indented) c.loop-expression.invariant.1))))

-- ---- `/ rhs`

pub evaluate_root-returns-in_err-right : goal.evaluate_root-returns-in_err-right
evaluate_root-returns-in_err-right g t c =
    runs_exit _ _ _ c.from_residual.ensures.1 (runs_ends (meaning c.args.self.now (view c.args.rhs.now)) _ _ c.in_err-right.ensures)

pub evaluate_root-returns-in_err-left : goal.evaluate_root-returns-in_err-left
evaluate_root-returns-in_err-left g t c =
    runs_exit _ _ _ c.from_residual-in_err-left.ensures.1 (runs_on (meaning c.args.self.now (view c.args.rhs.now)) _ c.in_ok-right.ensures (runs_stopped _))

pub evaluate_root-returns : goal.evaluate_root-returns
evaluate_root-returns g t c =
    runs_on (meaning c.args.self.now (view c.args.rhs.now)) _ c.in_ok-right.ensures
    (runs_done _ _ (rw (c.in_ok-left.ensures, c.elements.ensures) at c.applied.ensures))

-- ---- string literals

pub evaluate_value-returns-in-StringLiteral : goal.evaluate_value-returns-in-StringLiteral
evaluate_value-returns-in-StringLiteral g t c = rw c.in-StringLiteral.is (runs_done _ _ c.string_literal.ensures)

-- ---- calls

pub evaluate_value-returns-in-Call : goal.evaluate_value-returns-in-Call
evaluate_value-returns-in-Call g t c = rw (c.in-Call.is, call_is, ← c.deref-in-Call.ensures.value) c.evaluate_call.ensures

pub evaluate_argument-returns-in-Call : goal.evaluate_argument-returns-in-Call
evaluate_argument-returns-in-Call g t c = rw (c.in-Call.is, call_is, ← c.deref.ensures.value) c.evaluate_call.ensures

pub evaluate_call-returns-in_default : goal.evaluate_call-returns-in_default
evaluate_call-returns-in_default g t c = rw c.in_default.is (runs_shut refl)

pub evaluate_call-returns-in_err-callee : goal.evaluate_call-returns-in_err-callee
evaluate_call-returns-in_err-callee g t c =
    runs_exit _ _ _ c.from_residual.ensures.1 (call_refused _ c.args.self.now c.in-Some.context c.in-Some.is (name_view c.args.name.now) c.args.arguments.now _
    c.in_err-callee.ensures.refused)

pub evaluate_call-returns-in_err-values : goal.evaluate_call-returns-in_err-values
evaluate_call-returns-in_err-values g t c = runs_exit _ _ _ c.from_residual-in_err-values.ensures.1 (runs_stopped _)

pub evaluate_call-loop-argument-init : goal.evaluate_call-loop-argument-init
evaluate_call-loop-argument-init g t c =
    let none = c.in_ok-values.ensures.items in
    record { count = rw none refl; texts = rw none (λ i within text. absurd (omega arith)); rest = rw none row_start }

pub evaluate_call-returns-in_err-value : goal.evaluate_call-returns-in_err-value
evaluate_call-returns-in_err-value g t c =
    let self = c.args.self.now in
    let name = name_view c.args.name.now in
    let r = reached_view c.in_ok-callee.callee in
    runs_exit _ _ _ c.from_residual-in_err-value.ensures.1 (call_ends _ self c.in-Some.context c.in-Some.is name c.args.arguments.now r
    c.in_ok-callee.ensures.enters _
    (row_ends c.loop-argument.invariant.rest c.loop-argument-test.true c.argument-item.is _ (runs_ends _ _ _ c.in_err-value.ensures)))

pub evaluate_call-returns-then-not-takes : goal.evaluate_call-returns-then-not-takes
evaluate_call-returns-then-not-takes g t c =
    let self = c.args.self.now in
    let name = name_view c.args.name.now in
    let r = reached_view c.in_ok-callee.callee in
    let here = c.len.ensures ∙ (c.loop-argument.values.ok.0 ∙ c.loop-argument.invariant.count) in
    let refused = Some (ListInStringContext (contexts.Function name) c.in_ok-value.value) in
    rw c.refuse_list.ensures (call_ends _ self c.in-Some.context c.in-Some.is name c.args.arguments.now r c.in_ok-callee.ensures.enters refused
    (row_ends c.loop-argument.invariant.rest c.loop-argument-test.true c.argument-item.is refused
    (looked_at _ (look r name) _ _ c.in_ok-value.value _ here c.in_ok-value.ensures (c.takes.ensures.refused c.if-not-takes.true name))))

pub evaluate_call-returns-in_err-push : goal.evaluate_call-returns-in_err-push
evaluate_call-returns-in_err-push g t c =
    let self = c.args.self.now in
    let name = name_view c.args.name.now in
    let r = reached_view c.in_ok-callee.callee in
    let here = c.len.ensures ∙ (c.loop-argument.values.ok.0 ∙ c.loop-argument.invariant.count) in
    runs_exit _ _ _ c.from_residual-in_err-push.ensures.1 (call_ends _ self c.in-Some.context c.in-Some.is name c.args.arguments.now r
    c.in_ok-callee.ensures.enters None
    (row_cut c.loop-argument.invariant.rest c.loop-argument-test.true c.argument-item.is c.in_ok-value.value
    (looked_at _ (look r name) _ _ c.in_ok-value.value _ here c.in_ok-value.ensures (c.takes.ensures.given c.if-not-takes.false name))))

pub evaluate_call-loop-argument-preserved : goal.evaluate_call-loop-argument-preserved
evaluate_call-loop-argument-preserved g t c =
    let name = name_view c.args.name.now in
    let r = reached_view c.in_ok-callee.callee in
    let made = c.loop-argument.values.items in
    let value = c.in_ok-value.value in
    let len : c.len.result ≡ length made = c.len.ensures ∙ c.loop-argument.values.ok.0 in
    record {
      count = rw c.in_ok-push.ensures.items (grind (arith, common_steps));
      texts = rw c.in_ok-push.ensures.items (more_texts (requires_text r) value made c.loop-argument.invariant.texts
          (subst (λ i. requires_text r i ≡ true → length value ≡ 1) len (c.takes.ensures.text c.if-not-takes.false)));
      rest = rw c.in_ok-push.ensures.items (row_next c.loop-argument.invariant.rest c.loop-argument-test.true c.argument-item.is value
          (looked_at _ (look r name) _ _ value _ (len ∙ c.loop-argument.invariant.count) c.in_ok-value.ensures
          (c.takes.ensures.given c.if-not-takes.false name)));
    }

pub evaluate_call-evaluate_defined_function-requires : goal.evaluate_call-evaluate_defined_function-requires
evaluate_call-evaluate_defined_function-requires g t c κs within =
    let fits = rw c.in-Defined.is at c.in_ok-callee.ensures.fits in
    (omega arith, (within, omega (arith, fits.2, c.loop-argument.invariant.count)))

pub evaluate_call-returns-in-BuiltIn : goal.evaluate_call-returns-in-BuiltIn
evaluate_call-returns-in-BuiltIn g t c =
    let self = c.args.self.now in
    let name = name_view c.args.name.now in
    let r = BuiltIn c.in-BuiltIn.function in
    call_runs _ self c.in-Some.context c.in-Some.is name c.args.arguments.now r (rw c.in-BuiltIn.is at c.in_ok-callee.ensures.enters)
    c.loop-argument.values.items _
    (row_all (rw c.in-BuiltIn.is at c.loop-argument.invariant.rest) c.loop-argument-test.false) c.evaluate_builtin_function.ensures

pub evaluate_call-returns-in-Defined : goal.evaluate_call-returns-in-Defined
evaluate_call-returns-in-Defined g t c =
    let self = c.args.self.now in
    let name = name_view c.args.name.now in
    let r = Defined (function_view c.in-Defined.function.now) c.in-Defined.calls_left in
    call_runs _ self c.in-Some.context c.in-Some.is name c.args.arguments.now r (rw c.in-Defined.is at c.in_ok-callee.ensures.enters)
    c.loop-argument.values.items _
    (row_all (rw c.in-Defined.is at c.loop-argument.invariant.rest) c.loop-argument-test.false) c.evaluate_defined_function.ensures

pub evaluate_value-returns-then-budget-lt-FORM : goal.evaluate_value-returns-then-budget-lt-FORM
evaluate_value-returns-then-budget-lt-FORM g t c = runs_stopped _

pub evaluate_call-returns-then-budget-lt-ENTRY : goal.evaluate_call-returns-then-budget-lt-ENTRY
evaluate_call-returns-then-budget-lt-ENTRY g t c = runs_stopped _

pub evaluate_defined_function-returns-then-budget-lt-REST_OF_BODY : goal.evaluate_defined_function-returns-then-budget-lt-REST_OF_BODY
evaluate_defined_function-returns-then-budget-lt-REST_OF_BODY g t c = runs_stopped _

pub evaluate_defined_function-returns-in_err-scope : goal.evaluate_defined_function-returns-in_err-scope
evaluate_defined_function-returns-in_err-scope g t c = runs_exit _ _ _ c.from_residual.ensures.1 (runs_stopped _)

pub evaluate_defined_function-returns : goal.evaluate_defined_function-returns
evaluate_defined_function-returns g t c =
    let self = c.args.self.now in
    let function = c.args.function.now in
    let bound : frames_view c.in_ok-scope.scope ≡ with_parameters [] (map parameter_view function.parameters.items) c.args.values.items
    ∷ frames_view self.below.now = rw (c.in_ok-scope.ensures, c.deref.ensures.value) refl in
    body_runs (program self) c.args.calls_left _ _ (view function.body) _
    (inside_is (frames_view c.in_ok-scope.scope) (situation self) _ (function_view function) c.args.values.items bound refl)
    (rw c.in_body-evaluator.ensures at c.evaluate_value.ensures)

-- ---- operands that are only read

pub evaluate_operand-returns-in-Some : goal.evaluate_operand-returns-in-Some
evaluate_operand-returns-in-Some g t c = rw c.in-Some.is at c.texts_in_place.ensures

pub evaluate_operand-returns-in_err-value : goal.evaluate_operand-returns-in_err-value
evaluate_operand-returns-in_err-value g t c = runs_exit _ _ _ c.from_residual.ensures.1 c.in_err-value.ensures

pub evaluate_operand-returns : goal.evaluate_operand-returns
evaluate_operand-returns g t c = c.in_ok-value.ensures
