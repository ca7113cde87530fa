use Rattle.just_syntax.proofs.Rows.{view_call, view_format_string, view_list}
use Rattle.just_changes.specs.Prelude.{literal_view, name_view, piece_views, token_view, views}
use Rattle.just_changes.proofs.Parts.{else_call, else_list, then_call, then_format_string, then_list}
use Rattle.just_changes.proofs.same.+is_same.Goals as goal

pub is_same-returns-in-Call : goal.is_same-returns-in-Call
is_same-returns-in-Call t c = rw (c.in-Call.is, view_call, ← c.deref-in-Call.ensures.value) c.is_call.ensures

pub is_same-returns-in-FormatString : goal.is_same-returns-in-FormatString
is_same-returns-in-FormatString t c = rw (c.in-FormatString.is, view_format_string, ← c.deref-in-FormatString.ensures.value) c.is_format.ensures

pub is_same-returns-in-List : goal.is_same-returns-in-List
is_same-returns-in-List t c = rw (c.in-List.is, view_list, ← c.deref-in-List.ensures.value) c.is_list.ensures

pub is_call-returns-then-are_all_same : goal.is_call-returns-then-are_all_same
is_call-returns-then-are_all_same t c =
    rw (c.in-Call.is, view_call, ← c.deref.ensures.value)
    (then_call (name_view c.args.name) (name_view c.in-Call.other_name) (views c.args.arguments.now) (views c.deref.result.now) c.are_all_same.result
    c.is_same_token.result c.are_all_same.ensures c.if-are_all_same.true c.is_same_token.ensures)

pub is_call-returns-else-are_all_same : goal.is_call-returns-else-are_all_same
is_call-returns-else-are_all_same t c =
    rw (c.in-Call.is, view_call, ← c.deref.ensures.value, c.if-are_all_same.false)
    (else_call (name_view c.args.name) (name_view c.in-Call.other_name) (views c.args.arguments.now) (views c.deref.result.now) c.are_all_same.result
    c.are_all_same.result c.are_all_same.ensures c.if-are_all_same.false)

pub is_format-returns-then-is_same_literal : goal.is_format-returns-then-is_same_literal
is_format-returns-then-is_same_literal t c =
    rw (c.in-FormatString.is, view_format_string, ← c.deref.ensures.value)
    (then_format_string (literal_view c.args.start.now) (literal_view c.in-FormatString.other_start) (piece_views c.args.expressions.now)
    (piece_views c.deref.result.now) c.is_same_literal.result c.are_pieces_same.result c.is_same_literal.ensures c.if-is_same_literal.true
    c.are_pieces_same.ensures)

pub is_list-returns-then-are_all_same : goal.is_list-returns-then-are_all_same
is_list-returns-then-are_all_same t c =
    rw (c.in-List.is, view_list, ← c.deref.ensures.value)
    (then_list (token_view c.args.token) (token_view c.in-List.other_token) (views c.args.elements.now) (views c.deref.result.now) c.are_all_same.result
    c.is_same_token.result c.are_all_same.ensures c.if-are_all_same.true c.is_same_token.ensures)

pub is_list-returns-else-are_all_same : goal.is_list-returns-else-are_all_same
is_list-returns-else-are_all_same t c =
    rw (c.in-List.is, view_list, ← c.deref.ensures.value, c.if-are_all_same.false)
    (else_list (token_view c.args.token) (token_view c.in-List.other_token) (views c.args.elements.now) (views c.deref.result.now) c.are_all_same.result
    c.are_all_same.result c.are_all_same.ensures c.if-are_all_same.false)
