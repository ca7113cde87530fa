-- Expressions with unboxed parts, and the rows of an evaluator.
use Rattle.std.proofs.Common.{◌≡◌, ℕ, ◌+◌, ◌<◌, ◌≤◌, List, [], ◌∷◌, ◌++◌, length, get_or, drop, add-one, ap, sym, ◌∙◌, subst, Option}
use Rattle.std.proofs.lemmas.List.{append-nil, append_assoc, drop_all}
use Rattle.just_syntax.specs.declared.expression.Expression.{Expression}
use Rattle.just_syntax.specs.declared.expression.Expression.TheViews as expressions
use Rattle.just_syntax.specs.declared.string_literal.StringLiteral.{StringLiteral as Written}
use Rattle.just_expression.specs.Prelude.{Behaves, Entered, Gave, Refusal, Step, Stopped, Text, Tree, Value, as_it_is, bind, called, callee, deeper}
use Rattle.just_expression.specs.Prelude.{eval_pieces, unchecked}
use Rattle.just_expression.specs.Prelude.{flatten, formatted, gives, joined, literal_view, meaning, name_view, note, piece_views, program, row, rules}
use Rattle.just_expression.specs.Prelude.{situation, view, without_value}
use Rattle.just_syntax.specs.View.{views}
use Rattle.just_syntax.proofs.Rows.{view_list, view_call, view_format_string, count_views, views_front, pieces_front}
use Rattle.just_host.proofs.Left.{Left, left_all, left_cut, left_ends, left_next, left_none}
use Rattle.just_meaning.specs.Meaning.{eval_row}
use Rattle.just_expression.specs.declared.evaluator.ExpressionEvaluator.{ExpressionEvaluator}

module _ (e : ExpressionEvaluator) where
  pub list_is : (es : _) (t : _) → meaning e (view (expressions.List es t)) ≡ bind (row e es.items as_it_is) (λ vs. gives (flatten vs))
  list_is es t = ap (meaning e) (view_list es t)

  pub call_is : (es : _) (name : _) → meaning e (view (expressions.Call es name))
      ≡ note (Entered (name_view name)) (called (program e) (name_view name) (callee (program e).functions (name_view name).lexeme) (deeper e) (situation e)
      (length es.items) (row e es.items))
  call_is es name =
      ap (meaning e) (view_call es name)
      ∙ ap (λ n. note (Entered (name_view name)) (called (program e) (name_view name) (callee (program e).functions (name_view name).lexeme) (deeper e)
      (situation e) n (row e es.items))) (count_views es.items)

  pub format_string_is : (start : _) (es : _) → meaning e (view (expressions.FormatString start es))
      ≡ bind (eval_pieces (program e) (deeper e) (situation e) (piece_views es.items)) (λ text. gives (formatted (literal_view start) text ∷ []))
  format_string_is start es = ap (meaning e) (view_format_string start es)

pub flatten_more : (vs : List Value) (v : Value) → flatten (vs ++ v ∷ []) ≡ flatten vs ++ v
flatten_more [] v = append-nil v
flatten_more (w ∷ vs) v = ap (λ x. w ++ x) (flatten_more vs v) ∙ sym (append_assoc w (flatten vs) v)

-- ---- the rows of an evaluator

-- what a row means from an index on, each value passed to `look`
abbrev row_from : ExpressionEvaluator → (ℕ → Value → Tree Value) → ℕ → List Expression → Tree (List Value)
row_from e look i ys = eval_row (program e) (deeper e) (situation e) i (views ys) look

-- Of these expressions those from an index on are left, after these values.
pub record RowLeft {S : Type 0} (step : Step S) (e : ExpressionEvaluator) (start : S) (look : ℕ → Value → Tree Value) (xs : List Expression) (i : ℕ) (here : S)
    (made : List Value) : Type 0 where
  pub rest : Left (rules e) step (row e xs look) start (row_from e look i (drop i xs)) here made

module _ {S : Type 0} {step : Step S} {e : ExpressionEvaluator} {start : S} {look : ℕ → Value → Tree Value} {xs : List Expression} where
  pub row_start : RowLeft step e start look xs 0 start []
  row_start = record { rest = left_all (row e xs look) }

  module _ {i : ℕ} {here : S} {made : List Value} (left : RowLeft step e start look xs i here made) where
    pub row_all : length xs ≤ i → Behaves (rules e) step unchecked start (row e xs look) (Gave made) here
    row_all over =
        left_none (row e xs look) made (subst (λ ys. Left (rules e) step (row e xs look) start (row_from e look i ys) here made) (drop_all i xs over) left.rest)

    module _ {x : Expression} (fits : i < length xs) (is : x ≡ get_or xs i x) where
      abbrev first_element : Tree Value
      first_element = bind (meaning e (view x)) (look i)

      front : row_from e look i (drop i xs) ≡ bind first_element (λ v. bind (row_from e look (i + 1) (drop (i + 1) xs)) (λ vs. gives ((v ∷ []) ++ vs)))
      front =
          ap (λ es. eval_row (program e) (deeper e) (situation e) i es look) (views_front xs i x fits is)
          ∙ ap (λ j. bind first_element (λ v. bind (eval_row (program e) (deeper e) (situation e) j (views (drop (i + 1) xs)) look) (λ vs. gives (v ∷ vs))))
          (sym (add-one i))

      fronted : Left (rules e) step (row e xs look) start
          (bind first_element (λ v. bind (row_from e look (i + 1) (drop (i + 1) xs)) (λ vs. gives ((v ∷ []) ++ vs))))
          here made
      fronted = subst (λ t. Left (rules e) step (row e xs look) start t here made) front left.rest

      pub row_next : {mid : S} (v : Value) → Behaves (rules e) step unchecked here first_element (Gave v) mid
          → RowLeft step e start look xs (i + 1) mid (made ++ v ∷ [])
      row_next v r = record { rest = left_next (row e xs look) first_element _ (λ v. v ∷ []) made fronted v r }

      pub row_ends : {new : S} (r : Option Refusal) → Behaves (rules e) step unchecked here first_element (without_value r) new
          → Behaves (rules e) step unchecked start (row e xs look) (without_value r) new
      row_ends r q = left_ends (row e xs look) first_element _ (λ v. v ∷ []) made fronted r q

      pub row_cut : {new : S} (v : Value) → Behaves (rules e) step unchecked here first_element (Gave v) new
          → Behaves (rules e) step unchecked start (row e xs look) Stopped new
      row_cut v r = left_cut (row e xs look) first_element _ (λ v. v ∷ []) made fronted v r

-- what the interpolations of a format string mean
abbrev pieces_meaning : ExpressionEvaluator → List (Expression × Written) → Tree Text
pieces_meaning e ps = eval_pieces (program e) (deeper e) (situation e) (piece_views ps)

-- Of these interpolations those from an index on are left, after this text.
pub record PiecesLeft {S : Type 0} (step : Step S) (e : ExpressionEvaluator) (start : S) (ps : List (Expression × Written)) (i : ℕ) (here : S)
    (made : Text) : Type 0 where
  pub rest : Left (rules e) step (pieces_meaning e ps) start (pieces_meaning e (drop i ps)) here made

module _ {S : Type 0} {step : Step S} {e : ExpressionEvaluator} {start : S} {ps : List (Expression × Written)} where
  pub pieces_start : PiecesLeft step e start ps 0 start []
  pieces_start = record { rest = left_all (pieces_meaning e ps) }

  module _ {i : ℕ} {here : S} {made : Text} (left : PiecesLeft step e start ps i here made) where
    pub pieces_all : length ps ≤ i → Behaves (rules e) step unchecked start (pieces_meaning e ps) (Gave made) here
    pieces_all over =
        left_none (pieces_meaning e ps) made
        (subst (λ qs. Left (rules e) step (pieces_meaning e ps) start (pieces_meaning e qs) here made) (drop_all i ps over) left.rest)

    module _ {p : Expression × Written} (fits : i < length ps) (is : p ≡ get_or ps i p) where
      abbrev text : Value → Text
      text v = joined v ++ (literal_view p.1).cooked

      fronted_pieces : Left (rules e) step (pieces_meaning e ps) start
          (bind (meaning e (view p.0)) (λ v. bind (pieces_meaning e (drop (i + 1) ps)) (λ rest. gives (text v ++ rest)))) here made
      fronted_pieces = subst (λ t. Left (rules e) step (pieces_meaning e ps) start t here made)
          (ap (eval_pieces (program e) (deeper e) (situation e)) (pieces_front ps i p fits is)) left.rest

      pub pieces_next : {mid : S} (v : Value) → Behaves (rules e) step unchecked here (meaning e (view p.0)) (Gave v) mid
          → PiecesLeft step e start ps (i + 1) mid (made ++ text v)
      pieces_next v r = record { rest = left_next (pieces_meaning e ps) (meaning e (view p.0)) _ text made fronted_pieces v r }

      pub pieces_end : {new : S} (r : Option Refusal) → Behaves (rules e) step unchecked here (meaning e (view p.0)) (without_value r) new
          → Behaves (rules e) step unchecked start (pieces_meaning e ps) (without_value r) new
      pieces_end r q = left_ends (pieces_meaning e ps) (meaning e (view p.0)) _ text made fronted_pieces r q

      pub pieces_cut : {new : S} (v : Value) → Behaves (rules e) step unchecked here (meaning e (view p.0)) (Gave v) new
          → Behaves (rules e) step unchecked start (pieces_meaning e ps) Stopped new
      pieces_cut v r = left_cut (pieces_meaning e ps) (meaning e (view p.0)) _ text made fronted_pieces v r
