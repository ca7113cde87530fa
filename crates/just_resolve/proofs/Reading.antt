-- What the assignments and the functions of a renumbered module read.
use Rattle.std.proofs.Common.{◌≡◌, ◌⊎◌, inl, inr, ⊎_elim, ℕ, Bool, true, false, cond, List, [], ◌∷◌, ◌++◌, map, Option, Some, None, refl, ap, sym, ◌∙◌, subst}
use Rattle.std.specs.BTreeMap.{is_at}
use Rattle.std.specs.Option.{option_or}
use Rattle.std.specs.Ordering.{nat_cmp}
use Rattle.std.specs.Str.{bytes_eq}
use Rattle.std.proofs.lemmas.List.{map-append}
use Rattle.just_syntax.proofs.Lists.{in_append}
use Rattle.just_syntax.proofs.Members.{number_decides}
use Rattle.just_syntax.specs.Plain.{And, Assert, AssertOnly, Backtick, Call, Comparison, Concatenation, Conditional, ConditionalOnly, FormatString, Group, Join}
use Rattle.just_syntax.specs.Plain.{JoinOnly, ListOf, ListConcatenation, Not, Or, StringLiteral, Variable, Exprs, Nil, Cons, Pieces, NoPiece, Piece, count}
use Rattle.just_value.specs.Frames.{Bound, bound_at, value_of}
use Rattle.just_value.specs.Value.{Value}
use Rattle.just_value.specs.declared.binding.Binding.{Binding}
use Rattle.just_value.specs.declared.scope.Scope.{Scope, Scope', Held-Scope-outer, None', Some'}
use Rattle.just_value.specs.View.{outer_view}
use Rattle.just_syntax.specs.Occurrences.{CallOf, CommandOf, Occurrence, SomeOccursInPieces, SomeOccursInRow, VariableOf, mention_of}
use Rattle.just_meaning.specs.Reaches.{IsAmong, Occurs, Reads}
use Rattle.just_resolution.proofs.Faults.{numbers_alone}
use Rattle.just_resolve.specs.Prelude.{Assignment, Expr, Frames, Function, HasValue, IsIn, IsRenumbered, IsRenumberedAssignment, IsRenumberedFunction, Pairwise}
use Rattle.just_resolve.specs.Prelude.{Text, Token, bound_names, bound_view, first_named, frame_names, frame_view, frames_view, numbered_assignments}
use Rattle.just_resolve.specs.Prelude.{numbered_expression, value_in, visible}
use Rattle.just_syntax.specs.Renumbered.{Numbering, renumbered_pieces, renumbered_row}
use Rattle.just_resolve.proofs.Lookups.{found_there}

-- ---- numbers of names

module _ (names : Text → Option ℕ) (P : ℕ → Type 0) (given : (t : Text) (n : ℕ) → names t ≡ Some n → P n) where
  abbrev by_name : Numbering
  by_name t number = names t

  abbrev IsVariable : ℕ → Occurrence → Type 0
  IsVariable n o = mention_of o ≡ VariableOf (Some n)

  mutual
    -- each number that is read is that of a name
    pub number_read : (e : Expr) (n : ℕ) → Occurs (numbered_expression names e) (VariableOf (Some n)) → P n
    number_read (And l r) n h = ⊎_elim (λ k. number_read l n k) (λ k. number_read r n k) h
    number_read (Assert e m t) n h = ⊎_elim (λ k. number_read e n k) (λ k. number_read m n k) h
    number_read (AssertOnly e t) n h = number_read e n h
    number_read (Backtick text t) n h = absurd (let bad : CommandOf text ≡ VariableOf (Some n) = h in cc)
    number_read (Call t es) n h =
        ⊎_elim (λ k. absurd (let bad : CallOf t.lexeme (count (renumbered_row by_name es)) ≡ VariableOf (Some n) = k in cc)) (λ k. row_read es n k) h
    number_read (Comparison l o r t) n h = ⊎_elim (λ k. number_read l n k) (λ k. number_read r n k) h
    number_read (Concatenation l t r) n h = ⊎_elim (λ k. number_read l n k) (λ k. number_read r n k) h
    number_read (Conditional e a b) n h =
        ⊎_elim (λ k. number_read e n k) (λ k. ⊎_elim (λ j. number_read a n j) (λ j. number_read b n j) k) h
    number_read (ConditionalOnly e a) n h = ⊎_elim (λ k. number_read e n k) (λ k. number_read a n k) h
    number_read (FormatString start pieces) n h = pieces_read pieces n h
    number_read (Group e) n h = number_read e n h
    number_read (Join l t r) n h = ⊎_elim (λ k. number_read l n k) (λ k. number_read r n k) h
    number_read (JoinOnly t r) n h = number_read r n h
    number_read (ListOf es t) n h = row_read es n h
    number_read (ListConcatenation l t r) n h = ⊎_elim (λ k. number_read l n k) (λ k. number_read r n k) h
    number_read (Not e) n h = number_read e n h
    number_read (Or l r) n h = ⊎_elim (λ k. number_read l n k) (λ k. number_read r n k) h
    number_read (StringLiteral literal) n h = absurd h
    number_read (Variable t number) n h =
        let is : VariableOf (names t.lexeme) ≡ VariableOf (Some n) = h in let same : names t.lexeme ≡ Some n = cc in given t.lexeme n same

    row_read : (es : Exprs) (n : ℕ) → SomeOccursInRow (IsVariable n) (renumbered_row by_name es) → P n
    row_read Nil n h = absurd h
    row_read (Cons e es) n h = ⊎_elim (λ k. number_read e n k) (λ k. row_read es n k) h

    pieces_read : (pieces : Pieces) (n : ℕ) → SomeOccursInPieces (IsVariable n) (renumbered_pieces by_name pieces) → P n
    pieces_read NoPiece n h = absurd h
    pieces_read (Piece e literal pieces) n h = ⊎_elim (λ k. number_read e n k) (λ k. pieces_read pieces n k) h

-- the number of the first pair with a name is that of a pair
first_named_in : (ps : List (Token × ℕ)) (t : Text) (n : ℕ) → first_named ps t ≡ Some n → IsIn (map (λ p. p.1) ps) n
first_named_in [] t n is = absurd (let bad : None ≡ Some n = is in cc)
first_named_in (p ∷ ps) t n is = by (λ e. first_named_in ps t n e) (bytes_eq t p.0.lexeme) is
  where
    by : (first_named ps t ≡ Some n → IsIn (map (λ p. p.1) ps) n) → (b : Bool) → cond b (Some p.1) (first_named ps t) ≡ Some n
        → IsIn (map (λ p. p.1) (p ∷ ps)) n
    by later true e = inl (let same : p.1 ≡ n = cc in same)
    by later false e = inr (later e)

-- ---- numbers that are bound outside

bound_there : (bs : List Binding) (n : ℕ) → IsIn (map (λ p. p.1) (frame_names (frame_view bs))) n → (b : Bound) × (bound_at n (frame_view bs) ≡ Some b)
bound_there [] n h = absurd h
bound_there (b ∷ bs) n h = by (λ k. bound_there bs n k) (is_at (nat_cmp n) b.number) refl h
  where
    by : (IsIn (map (λ p. p.1) (frame_names (frame_view bs))) n → (d : Bound) × (bound_at n (frame_view bs) ≡ Some d)) → (t : Bool)
        → is_at (nat_cmp n) b.number ≡ t → IsIn (map (λ p. p.1) (frame_names (frame_view (b ∷ bs)))) n
        → (d : Bound) × (cond t (Some (bound_view b)) (bound_at n (frame_view bs)) ≡ Some d)
    by later true is k = (bound_view b, refl)
    by later false is k = ⊎_elim
        (λ e. absurd (let on : is_at (nat_cmp n) b.number ≡ true = (number_decides n b.number).1 (sym e) in let bad : false ≡ true = sym is ∙ on in cc))
        (λ j. later j) k

value_past : (o : Option Bound) (r : Option Value) (v : Value) → r ≡ Some v → (w : Value) × (option_or (value_of o) r ≡ Some w)
value_past None r v is = (v, is)
value_past (Some b) r v is = (b.value, refl)

-- a number that a frame or one outside it binds has a value
value_over : (bs : List Binding) (outer : Frames) (n : ℕ) → (IsIn (map (λ p. p.1) (bound_names outer)) n → HasValue (value_in outer) n)
    → IsIn (map (λ p. p.1) (bound_names (frame_view bs ∷ outer))) n → HasValue (value_in (frame_view bs ∷ outer)) n
value_over bs outer n beyond h = ⊎_elim
    (λ k. let b = bound_there bs n k in (b.0.value, ap (λ o. option_or (value_of o) (value_in outer n)) b.1))
    (λ k. let v = beyond k in value_past (bound_at n (frame_view bs)) (value_in outer n) v.0 v.1)
    ((in_append (map (λ (p : Token × ℕ). p.1) (frame_names (frame_view bs))) (map (λ (p : Token × ℕ). p.1) (bound_names outer)) n).0
    (subst (λ ns. IsIn ns n) (map-append (λ (p : Token × ℕ). p.1) (frame_names (frame_view bs)) (bound_names outer)) h))

mutual
  -- the number of a name that a scope binds has a value
  pub bound_valued : (s : Scope) (n : ℕ) → IsIn (map (λ p. p.1) (bound_names (frames_view s))) n → HasValue (value_in (frames_view s)) n
  bound_valued (Scope' frame outer) n h = value_over frame (outer_view outer) n (λ k. outer_valued outer n k) h

  outer_valued : (o : Held-Scope-outer) (n : ℕ) → IsIn (map (λ p. p.1) (bound_names (outer_view o))) n → HasValue (value_in (outer_view o)) n
  outer_valued None' n h = absurd h
  outer_valued (Some' pointer outer) n h = bound_valued outer n h

-- ---- a renumbered module

pairwise_there : {A B : Type 0} (R : A → B → Type 0) (xs : List A) (ys : List B) (y : B) → Pairwise R xs ys → IsIn ys y → (x : A) × R x y
pairwise_there R [] [] y h there = absurd there
pairwise_there R [] (b ∷ ys) y h there = absurd h
pairwise_there R (a ∷ xs) [] y h there = absurd h
pairwise_there R (a ∷ xs) (b ∷ ys) y h (inl same) = (a, subst (R a) same h.0)
pairwise_there R (a ∷ xs) (b ∷ ys) y h (inr later) = pairwise_there R xs ys y h.1 later

module _ (outer : Frames) (functions functions' : List Function) (assignments assignments' : List Assignment)
    (renumbered : IsRenumbered outer functions assignments functions' assignments')
    (bound : (n : ℕ) → IsIn (map (λ p. p.1) (bound_names outer)) n → HasValue (value_in outer) n) where
  abbrev names : List (Token × ℕ)
  names = visible assignments' outer

  -- it is the number of an assignment, or it is bound outside
  abbrev IsAssignedOrBound : ℕ → Type 0
  IsAssignedOrBound n = IsIn (map (λ a. a.number) assignments') n ⊎ HasValue (value_in outer) n

  name_given : (n : ℕ) → IsIn (map (λ p. p.1) names) n → IsAssignedOrBound n
  name_given n h =
      let second = λ (p : Token × ℕ). p.1 in
      ⊎_elim (λ k. inl (subst (λ ns. IsIn ns n) (numbers_alone assignments') k)) (λ k. inr (bound n k))
      ((in_append (map second (numbered_assignments assignments')) (map second (bound_names outer)) n).0
      (subst (λ ns. IsIn ns n) (map-append second (numbered_assignments assignments') (bound_names outer)) h))

  value_given : (b : Assignment) (n : ℕ) → IsIn assignments' b → Occurs b.value (VariableOf (Some n)) → IsAssignedOrBound n
  value_given b n there h =
      let a = pairwise_there (IsRenumberedAssignment names) assignments assignments' b renumbered.values there in
      number_read (first_named names) IsAssignedOrBound (λ t k e. name_given k (first_named_in names t k e)) a.0.value n
      (subst (λ e. Occurs e (VariableOf (Some n))) (ap (λ (d : Assignment). d.value) a.1) h)

  body_given : (g : Function) (n : ℕ) → IsIn functions' g → Occurs g.body (VariableOf (Some n)) → IsAmong g.parameters n ⊎ IsAssignedOrBound n
  body_given g n there h =
      let f = pairwise_there (IsRenumberedFunction names) functions functions' g renumbered.bodies there in
      let all = g.parameters ++ names in
      let second = λ (p : Token × ℕ). p.1 in
      number_read (first_named all) (λ k. IsAmong g.parameters k ⊎ IsAssignedOrBound k)
      (λ t k e. ⊎_elim (λ j. inl j) (λ j. inr (name_given k j))
      ((in_append (map second g.parameters) (map second names) k).0
      (subst (λ ns. IsIn ns k) (map-append second g.parameters names) (first_named_in all t k e))))
      f.0.body n (subst (λ e. Occurs e (VariableOf (Some n))) (ap (λ (d : Function). d.body) f.1.same) h)

  -- each number that an assignment reads, by itself or through functions
  pub reads_given : (b : Assignment) (n : ℕ) → IsIn assignments' b → Reads functions' b.value n → IsAssignedOrBound n
  reads_given b n there (inl occurs) = value_given b n there occurs
  reads_given b n there (inr r) =
      ⊎_elim (λ own. absurd (r.beyond own)) (λ k. k)
      (body_given r.function n (found_there (λ (f : Function). f.name.lexeme) r.name functions' r.function r.found) r.occurs)
