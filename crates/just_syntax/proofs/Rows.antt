-- Expressions whose parts are not boxes.
use Rattle.std.proofs.Common.{◌≡◌, ℕ, suc, List, [], ◌∷◌, ◌++◌, ◌+◌, ◌<◌, length, get_or, drop, add-one, drop-cons, codes, refl, ap, sym, ◌∙◌, rules}
use Rattle.just_syntax.specs.declared.expression.Expression.{Expression, Row_of-Expression, end_of-Expression, more_of-Expression, items-the_row-Expression}
use Rattle.just_syntax.specs.declared.expression.Expression.{Row_of-Expression-FormatString-1-2, items-the_row-Expression-FormatString-1-2}
use Rattle.just_syntax.specs.declared.expression.Expression.{end_of-Expression-FormatString-1-2, more_of-Expression-FormatString-1-2}
use Rattle.just_syntax.specs.declared.expression.Expression.TheViews.{the_lemmas}
use Rattle.just_syntax.specs.declared.expression.Expression.TheViews as expressions
use Rattle.just_syntax.specs.Prelude.{Call, FormatString, ListOf, literal_view, name_view, piece_views, printed, printed_call}
use Rattle.just_syntax.specs.Prelude.{printed_pieces, printed_row, token_view, view, views}
use Rattle.just_syntax.specs.Plain.{Cons, Piece, count}
use Rattle.just_syntax.specs.Occurrences.{Occurrence, occurring, occurring_in_call, occurring_in_pieces, occurring_in_row}
use Rattle.just_syntax.specs.declared.string_literal.StringLiteral.{StringLiteral as Written}
use Rattle.just_syntax.specs.View.{row_view, pieces_view}

row_items : {n : _} (row : Row_of-Expression n) → row_view row ≡ views (items-the_row-Expression n row)
row_items end_of-Expression = refl
row_items (more_of-Expression e rest) = ap (Cons (view e)) (row_items rest)

pub view_list : (es : _) (t : _) → view (expressions.List es t) ≡ ListOf (views es.items) (token_view t)
view_list es t = search (rules, the_lemmas, row_items)

pub view_call : (es : _) (name : _) → view (expressions.Call es name) ≡ Call (name_view name) (views es.items)
view_call es name = search (rules, the_lemmas, row_items)

-- a row has as many elements as there are expressions
pub count_views : (es : List Expression) → count (views es) ≡ length es
count_views [] = refl
count_views (e ∷ es) = ap suc (count_views es)

piece_items : {n : _} (row : Row_of-Expression-FormatString-1-2 n) → pieces_view row ≡ piece_views (items-the_row-Expression-FormatString-1-2 n row)
piece_items end_of-Expression-FormatString-1-2 = refl
piece_items (more_of-Expression-FormatString-1-2 e literal rest) = ap (Piece (view e) (literal_view literal)) (piece_items rest)

pub view_format_string : (start : _) (es : _) → view (expressions.FormatString start es) ≡ FormatString (literal_view start) (piece_views es.items)
view_format_string start es = search (rules, the_lemmas, piece_items)

-- ---- what occurs

module _ (os : List Occurrence) where
  pub occurring_list : (es : _) (t : _) → occurring os (view (expressions.List es t)) ≡ occurring_in_row os (views es.items)
  occurring_list es t = ap (occurring os) (view_list es t)

  pub occurring_call : (es : _) (name : _) → occurring os (view (expressions.Call es name)) ≡ occurring_in_call os (name_view name) (views es.items)
  occurring_call es name = ap (occurring os) (view_call es name)

  pub occurring_format_string : (start : _) (es : _) → occurring os (view (expressions.FormatString start es)) ≡ occurring_in_pieces os (piece_views es.items)
  occurring_format_string start es = ap (occurring os) (view_format_string start es)

-- ---- printed

pub printed_call_is : (es : _) (name : _) → printed (view (expressions.Call es name)) ≡ printed_call (name_view name).lexeme (printed_row [] (views es.items))
printed_call_is es name = ap printed (view_call es name)

pub printed_list : (es : _) (t : _) → printed (view (expressions.List es t)) ≡ (codes "[" ++ printed_row [] (views es.items)) ++ codes "]"
printed_list es t = ap printed (view_list es t)

pub printed_format_string : (start : _) (es : _) → printed (view (expressions.FormatString start es))
    ≡ start.lexeme.now ++ printed_pieces (piece_views es.items)
printed_format_string start es = ap printed (view_format_string start es)

-- the rest begins with the item
pub views_front : (es : List Expression) (i : ℕ) (e : Expression) → i < length es → e ≡ get_or es i e
    → views (drop i es) ≡ Cons (view e) (views (drop (i + 1) es))
views_front es i e h is =
    ap views (drop-cons es i e h) ∙ ap (λ x. Cons (view x) (views (drop (suc i) es))) (sym is) ∙ ap (λ j. Cons (view e) (views (drop j es))) (sym (add-one i))

pub pieces_front : (ps : List (Expression × Written)) (i : ℕ) (p : Expression × Written) → i < length ps → p ≡ get_or ps i p
    → piece_views (drop i ps) ≡ Piece (view p.0) (literal_view p.1) (piece_views (drop (i + 1) ps))
pieces_front ps i p h is = ap piece_views (drop-cons ps i p h) ∙ ap (λ x. Piece (view x.0) (literal_view x.1) (piece_views (drop (suc i) ps))) (sym is)
    ∙ ap (λ j. Piece (view p.0) (literal_view p.1) (piece_views (drop j ps))) (sym (add-one i))
