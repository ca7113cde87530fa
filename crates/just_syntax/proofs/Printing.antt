-- What is written for rows of expressions.
use Rattle.std.proofs.Common.{◌≡◌, ℕ, ◌+◌, ◌<◌, ◌≤◌, List, ◌++◌, length, get_or, drop, codes, sym, ap, ◌∙◌}
use Rattle.std.proofs.lemmas.List.{append_assoc, append-nil, drop_all}
use Rattle.just_syntax.specs.declared.expression.Expression.{Expression}
use Rattle.just_syntax.specs.declared.string_literal.StringLiteral.{StringLiteral}
use Rattle.just_syntax.specs.Prelude.{Text, piece_views, printed, printed_pieces, printed_row, view, views}
use Rattle.just_syntax.proofs.Rows.{views_front, pieces_front}

-- one more expression of a row
pub row_on : (text separator all : Text) (es : List Expression) (i : ℕ) (e : Expression) → i < length es → e ≡ get_or es i e
    → text ++ printed_row separator (views (drop i es)) ≡ all
    → (text ++ (separator ++ printed (view e))) ++ printed_row (codes ", ") (views (drop (i + 1) es)) ≡ all
row_on text separator all es i e h is so_far =
    append_assoc text (separator ++ printed (view e)) (printed_row (codes ", ") (views (drop (i + 1) es)))
    ∙ ap (λ r. text ++ printed_row separator r) (sym (views_front es i e h is)) ∙ so_far

-- the whole row
pub row_end : (text separator all : Text) (es : List Expression) (i : ℕ) → length es ≤ i → text ++ printed_row separator (views (drop i es)) ≡ all → text ≡ all
row_end text separator all es i h so_far = sym (append-nil text) ∙ ap (λ r. text ++ printed_row separator (views r)) (sym (drop_all i es h)) ∙ so_far

-- one more interpolation
pub pieces_on : (text all : Text) (ps : List (Expression × StringLiteral)) (i : ℕ) (p : Expression × StringLiteral) → i < length ps → p ≡ get_or ps i p
    → text ++ printed_pieces (piece_views (drop i ps)) ≡ all
    → (text ++ (printed (view p.0) ++ p.1.lexeme.now)) ++ printed_pieces (piece_views (drop (i + 1) ps)) ≡ all
pieces_on text all ps i p h is so_far =
    append_assoc text (printed (view p.0) ++ p.1.lexeme.now) (printed_pieces (piece_views (drop (i + 1) ps)))
    ∙ ap (λ r. text ++ printed_pieces r) (sym (pieces_front ps i p h is)) ∙ so_far

-- all interpolations
pub pieces_end : (text all : Text) (ps : List (Expression × StringLiteral)) (i : ℕ) → length ps ≤ i → text ++ printed_pieces (piece_views (drop i ps)) ≡ all
    → text ≡ all
pieces_end text all ps i h so_far = sym (append-nil text) ∙ ap (λ r. text ++ printed_pieces (piece_views r)) (sym (drop_all i ps h)) ∙ so_far
