use Rattle.std.proofs.Common.{◌≡◌, ◌*◌, ◌++◌, suc, List, length, string_bytes}
use Rattle.just_expression.specs.Prelude.{Text, Value, as_it_is, flatten, look, name_view, reached_view, requires_text}
use Rattle.just_expression.proofs.Rows.{PiecesLeft, RowLeft}
use Rattle.just_expression.proofs.Texts.{AreTexts}
use Rattle.just_expression.proofs.evaluator.ExpressionEvaluator.+evaluate.Given as goal

-- The measure of the recursion. Each level uses up some of its stack budget. Within a level an operand and a body come
-- after the entry, and the form after all three.
abbrev pub decreases-evaluate_value : goal.decreases-evaluate_value
decreases-evaluate_value g l = 3 * l.budget

abbrev pub decreases-evaluate_defined_function : goal.decreases-evaluate_defined_function
decreases-evaluate_defined_function g l = suc (3 * l.budget)

abbrev pub decreases-evaluate_argument : goal.decreases-evaluate_argument
decreases-evaluate_argument g l = suc (3 * l.budget)

abbrev pub decreases-evaluate_operand : goal.decreases-evaluate_operand
decreases-evaluate_operand g l = suc (3 * l.budget)

abbrev pub decreases-evaluate_and : goal.decreases-evaluate_and
decreases-evaluate_and g l = suc (suc (3 * l.budget))

abbrev pub decreases-evaluate_assert : goal.decreases-evaluate_assert
decreases-evaluate_assert g l = suc (suc (3 * l.budget))

abbrev pub decreases-evaluate_call : goal.decreases-evaluate_call
decreases-evaluate_call g l = suc (suc (3 * l.budget))

abbrev pub decreases-evaluate_comparison : goal.decreases-evaluate_comparison
decreases-evaluate_comparison g l = suc (suc (3 * l.budget))

abbrev pub decreases-evaluate_combination : goal.decreases-evaluate_combination
decreases-evaluate_combination g l = suc (suc (3 * l.budget))

abbrev pub decreases-evaluate_conditional : goal.decreases-evaluate_conditional
decreases-evaluate_conditional g l = suc (suc (3 * l.budget))

abbrev pub decreases-evaluate_format_string : goal.decreases-evaluate_format_string
decreases-evaluate_format_string g l = suc (suc (3 * l.budget))

abbrev pub decreases-evaluate_group : goal.decreases-evaluate_group
decreases-evaluate_group g l = suc (suc (3 * l.budget))

abbrev pub decreases-evaluate_root : goal.decreases-evaluate_root
decreases-evaluate_root g l = suc (suc (3 * l.budget))

abbrev pub decreases-evaluate_list : goal.decreases-evaluate_list
decreases-evaluate_list g l = suc (suc (3 * l.budget))

abbrev pub decreases-evaluate_list_concatenation : goal.decreases-evaluate_list_concatenation
decreases-evaluate_list_concatenation g l = suc (suc (3 * l.budget))

abbrev pub decreases-evaluate_not : goal.decreases-evaluate_not
decreases-evaluate_not g l = suc (suc (3 * l.budget))

abbrev pub decreases-evaluate_or : goal.decreases-evaluate_or
decreases-evaluate_or g l = suc (suc (3 * l.budget))

-- the elements of the values so far
abbrev pub invariant-evaluate_list-loop-element : goal.invariant-evaluate_list-loop-element
invariant-evaluate_list-loop-element g l =
    (made : List Value) × (l.all ≡ flatten made) × RowLeft g.H.Host.step l.self l.fn.host as_it_is l.elements l.element-index l.host made

-- the values of the arguments so far, each a text where one is required
abbrev pub invariant-evaluate_call-loop-argument : goal.invariant-evaluate_call-loop-argument
invariant-evaluate_call-loop-argument g l = record {
  count : length l.values.items ≡ l.argument-index;
  texts : AreTexts (requires_text (reached_view l.callee)) l.values.items;
  rest : RowLeft g.H.Host.step l.self l.fn.host (look (reached_view l.callee) (name_view l.name)) l.arguments l.argument-index l.host l.values.items;
}

-- the text after the start so far
abbrev pub invariant-evaluate_format_string-loop-expression : goal.invariant-evaluate_format_string-loop-expression
invariant-evaluate_format_string-loop-expression g l =
    (made : Text) × (string_bytes l.text ≡ l.start.cooked ++ made)
    × PiecesLeft g.H.Host.step l.self l.fn.host l.expressions l.expression-index l.host made
