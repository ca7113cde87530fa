-- Copies have the views of what was copied, but for the numbers of variables.
use Rattle.std.proofs.Common.{◌≡◌, List, [], ◌∷◌, map, refl, ap, ap₂, ◌∙◌}
use Rattle.std.specs.List.{AllZip}
use Rattle.std.specs.Prelude.{Err, IfOk, IsOkAnd, MatchResult, Ok, Result}
use Rattle.just_syntax.specs.Plain.{Expr, And, Assert, AssertOnly, Backtick, Call, Comparison, Concatenation, Conditional, ConditionalOnly, FormatString}
use Rattle.just_syntax.specs.Plain.{Group, Literal}
use Rattle.just_syntax.specs.Plain.{Join, JoinOnly, ListOf, ListConcatenation, Not, Or, StringLiteral, Variable, Exprs, Nil, Cons, Pieces, NoPiece, Piece}
use Rattle.just_syntax.specs.Prelude.{as_before, expression_interpreter_view, literal_view, name_view, piece_view, piece_views, renumbered, renumbered_pieces}
use Rattle.just_syntax.specs.Prelude.{renumbered_row, token_view, view, views}
use Rattle.just_syntax.specs.Renumbered.{Numbering}
use Rattle.just_syntax.specs.declared.expression.Expression.{Expression}
use Rattle.just_syntax.specs.declared.expression.Expression.TheViews as expressions
use Rattle.just_syntax.specs.declared.interpreter.Interpreter.{Interpreter}
use Rattle.just_syntax.specs.declared.string_literal.StringLiteral.{StringLiteral as Written}
use Rattle.just_syntax.proofs.Rows.{view_call, view_format_string, view_list}

-- where each copy has its original's view, the views are those of the originals
pub views_copied : {A B : Type 0} (f : A → B) (R : A → A → Type 0) (xs ys : List A) → AllZip R xs ys → ((x y : A) → R x y → f y ≡ f x) → map f ys ≡ map f xs
views_copied f R [] [] h same = refl
views_copied f R [] (y ∷ ys) h same = absurd h
views_copied f R (x ∷ xs) [] h same = absurd h
views_copied f R (x ∷ xs) (y ∷ ys) h same =
    let first : f y ≡ f x = same x y h.0 in
    let others : map f ys ≡ map f xs = views_copied f R xs ys h.1 same in
    cc

-- ---- expressions with other numbers

-- an interpolation with the text after it
abbrev pub piece_by : Numbering → Expression × Written → Expr × Literal
piece_by by p = (renumbered by (view p.0), literal_view p.1)

module _ (by : Numbering) where
  pub renumbered_list : (es : _) (t : _) → renumbered by (view (expressions.List es t)) ≡ ListOf (renumbered_row by (views es.items)) (token_view t)
  renumbered_list es t = ap (renumbered by) (view_list es t)

  pub renumbered_call : (es : _) (name : _) → renumbered by (view (expressions.Call es name)) ≡ Call (name_view name) (renumbered_row by (views es.items))
  renumbered_call es name = ap (renumbered by) (view_call es name)

  pub renumbered_format_string : (start : _) (es : _) → renumbered by (view (expressions.FormatString start es))
      ≡ FormatString (literal_view start) (renumbered_pieces by (piece_views es.items))
  renumbered_format_string start es = ap (renumbered by) (view_format_string start es)

  -- copies of all expressions are a copy of the row
  pub row_renumbered : (copies es : List Expression) → map view copies ≡ map (λ e. renumbered by (view e)) es → views copies ≡ renumbered_row by (views es)
  row_renumbered [] [] is = refl
  row_renumbered [] (e ∷ es) is = absurd (cc)
  row_renumbered (d ∷ copies) [] is = absurd (cc)
  row_renumbered (d ∷ copies) (e ∷ es) is =
      let first : view d ≡ renumbered by (view e) = cc in
      let others : map view copies ≡ map (λ e. renumbered by (view e)) es = cc in
      ap (λ x. Cons x (views copies)) first ∙ ap (Cons (renumbered by (view e))) (row_renumbered copies es others)

  pub pieces_renumbered : (copies ps : List (Expression × Written)) → map piece_view copies ≡ map (piece_by by) ps
      → piece_views copies ≡ renumbered_pieces by (piece_views ps)
  pieces_renumbered [] [] is = refl
  pieces_renumbered [] (p ∷ ps) is = absurd (cc)
  pieces_renumbered (d ∷ copies) [] is = absurd (cc)
  pieces_renumbered (d ∷ copies) (p ∷ ps) is =
      let first : piece_view d ≡ piece_by by p = cc in
      let others : map piece_view copies ≡ map (piece_by by) ps = cc in
      ap (λ x. Piece x.0 x.1 (piece_views copies)) first ∙ ap (Piece (renumbered by (view p.0)) (literal_view p.1)) (pieces_renumbered copies ps others)

-- with the numbers that its variables have, an expression is the same
mutual
  pub renumbered_same : (e : Expr) → renumbered as_before e ≡ e
  renumbered_same (And l r) = ap₂ And (renumbered_same l) (renumbered_same r)
  renumbered_same (Assert e m t) = ap₂ (λ x y. Assert x y t) (renumbered_same e) (renumbered_same m)
  renumbered_same (AssertOnly e t) = ap (λ x. AssertOnly x t) (renumbered_same e)
  renumbered_same (Backtick text t) = refl
  renumbered_same (Call t es) = ap (Call t) (row_same es)
  renumbered_same (Comparison l o r t) = ap₂ (λ x y. Comparison x o y t) (renumbered_same l) (renumbered_same r)
  renumbered_same (Concatenation l t r) = ap₂ (λ x y. Concatenation x t y) (renumbered_same l) (renumbered_same r)
  renumbered_same (Conditional e a b) =
      ap₂ (λ x y. Conditional x y (renumbered as_before b)) (renumbered_same e) (renumbered_same a) ∙ ap (Conditional e a) (renumbered_same b)
  renumbered_same (ConditionalOnly e a) = ap₂ ConditionalOnly (renumbered_same e) (renumbered_same a)
  renumbered_same (FormatString start ps) = ap (FormatString start) (pieces_same ps)
  renumbered_same (Group e) = ap Group (renumbered_same e)
  renumbered_same (Join l t r) = ap₂ (λ x y. Join x t y) (renumbered_same l) (renumbered_same r)
  renumbered_same (JoinOnly t r) = ap (JoinOnly t) (renumbered_same r)
  renumbered_same (ListOf es t) = ap (λ xs. ListOf xs t) (row_same es)
  renumbered_same (ListConcatenation l t r) = ap₂ (λ x y. ListConcatenation x t y) (renumbered_same l) (renumbered_same r)
  renumbered_same (Not e) = ap Not (renumbered_same e)
  renumbered_same (Or l r) = ap₂ Or (renumbered_same l) (renumbered_same r)
  renumbered_same (StringLiteral literal) = refl
  renumbered_same (Variable t number) = refl

  row_same : (es : Exprs) → renumbered_row as_before es ≡ es
  row_same Nil = refl
  row_same (Cons e es) = ap₂ Cons (renumbered_same e) (row_same es)

  pieces_same : (ps : Pieces) → renumbered_pieces as_before ps ≡ ps
  pieces_same NoPiece = refl
  pieces_same (Piece e literal ps) = ap₂ (λ x xs. Piece x literal xs) (renumbered_same e) (pieces_same ps)

-- so a copy with these numbers is a copy
pub same_copied : {E : Type 0} {O : E → Type 0} (e : Expr) (r : Result Expression E) → IfOk r (λ x. view x ≡ renumbered as_before e) → ((f : E) → O f)
    → MatchResult r (λ x. view x ≡ e) O
same_copied e (Ok x) is fails = is ∙ renumbered_same e
same_copied e (Err f) is fails = fails f

-- ---- interpreters

pub interpreter_copied : (i copy : Interpreter Expression) → AllZip (λ x y. view y ≡ view x) i.arguments.items copy.arguments.items
    → view copy.command ≡ view i.command → expression_interpreter_view copy ≡ expression_interpreter_view i
interpreter_copied i copy arguments command =
    let each : map view copy.arguments.items ≡ map view i.arguments.items =
    views_copied view (λ x y. view y ≡ view x) i.arguments.items copy.arguments.items arguments (λ x y h. h) in
    cc

-- what is made of a copy
pub made_of_copy : {A B E : Type 0} {P : A → Type 0} (N : E → Type 0) (R : B → Type 0) {O : E → Type 0} (make : A → B) (r : Result A E) (s : Result B E)
    → MatchResult r P N → MatchResult r (λ x. IsOkAnd s (λ y. y ≡ make x)) (λ e. s ≡ Err e) → ((x : A) → P x → R (make x))
    → ((e : E) → O e) → MatchResult s R O
made_of_copy N R make (Ok x) (Ok y) copied made has fails = let is : y ≡ make x = made in rw (is) (has x copied)
made_of_copy N R make (Ok x) (Err e) copied made has fails = absurd made
made_of_copy N R make (Err e) (Ok y) copied made has fails = absurd (let bad : Ok y ≡ Err e = made in cc)
made_of_copy N R make (Err e) (Err f) copied made has fails = fails f
