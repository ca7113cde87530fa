use Rattle.std.proofs.Common.{◌≡◌, ◌∙◌, ◌+◌, ◌++◌, ◌∷◌, [], ap, ap₂, map, sym, take}
use Rattle.std.proofs.lemmas.List.{map-append, map_more}
use Rattle.just_syntax.specs.Plain.{Call, Exprs, FormatString, ListOf, Literal, Pieces}
use Rattle.just_syntax.specs.Prelude.{literal_view, name_view, piece_view, piece_views, renumbered_pieces, token_view}
use Rattle.just_syntax.proofs.Copies.{piece_by, pieces_renumbered, renumbered_call, renumbered_format_string, renumbered_list, row_renumbered}
use Rattle.just_syntax.proofs.expression.copy.+copy.Goals as goal

pub copy-returns-in-FormatString : goal.copy-returns-in-FormatString
copy-returns-in-FormatString g t c = rw (c.in-FormatString.is, renumbered_format_string) c.format_string.ensures

pub copy-returns-in-Call : goal.copy-returns-in-Call
copy-returns-in-Call g t c = rw (c.in-Call.is, renumbered_call) c.call.ensures

pub copy-returns-in-List : goal.copy-returns-in-List
copy-returns-in-List g t c = rw (c.in-List.is, renumbered_list) c.list.ensures

pub call-returns : goal.call-returns
call-returns g t c =
    let by = g.N.Numbers.number_of c.args.numbers.now in
    c.call.ensures
    ∙ ap (λ (es : Exprs). Call (name_view c.args.name.now) es)
    (row_renumbered by c.in_ok-copies.copies.items c.args.arguments.now.items c.in_ok-copies.ensures)

pub list-returns : goal.list-returns
list-returns g t c =
    let by = g.N.Numbers.number_of c.args.numbers.now in
    c.list.ensures
    ∙ ap (λ (es : Exprs). ListOf es (token_view c.args.token.now))
    (row_renumbered by c.in_ok-copies.copies.items c.args.elements.now.items c.in_ok-copies.ensures)

pub format_string-returns : goal.format_string-returns
format_string-returns g t c =
    let by = g.N.Numbers.number_of c.args.numbers.now in
    c.format_string.ensures
    ∙ ap (λ (ps : Pieces). FormatString (literal_view c.in_ok-start.start) ps)
    (pieces_renumbered by c.in_ok-copies.copies.items c.args.expressions.now.items c.in_ok-copies.ensures)
    ∙ ap (λ (l : Literal). FormatString l (renumbered_pieces by (piece_views c.args.expressions.now.items))) c.in_ok-start.ensures.cases

pub pieces-loop-expression-preserved : goal.pieces-loop-expression-preserved
pieces-loop-expression-preserved g t c =
    let by = g.N.Numbers.number_of c.args.numbers.now in
    let ps = c.deref-expression-items.result.now in
    let i = c.loop-expression.expression-index in
    let p = c.loop-expression-item.result in
    let copied : piece_view (c.in_ok-copy.copy, c.in_ok-text.text) ≡ piece_by by p = ap₂ (λ x y. (x, y)) c.in_ok-copy.ensures c.in_ok-text.ensures.cases in
    let more : map (piece_by by) (take (i + 1) ps) ≡ map (piece_by by) (take i ps) ++ piece_by by p ∷ [] =
    map_more (piece_by by) ps i _ c.loop-expression-test.true ∙ ap (λ q. map (piece_by by) (take i ps) ++ piece_by by q ∷ []) (sym c.loop-expression-item.is) in
    ap (map piece_view) c.in_ok-push.ensures ∙ map-append piece_view c.loop-expression.copies.items _
    ∙ ap₂ (λ xs x. xs ++ x ∷ []) c.loop-expression.invariant copied ∙ sym more
