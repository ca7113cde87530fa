-- What occurs in an expression, by its forms and as a list.
use Rattle.std.proofs.Common.{◌≡◌, ◌↔◌, ◌⊎◌, inl, inr, ⊎_elim, List, [], ◌∷◌, ◌++◌, refl, sym, subst}
use Rattle.std.specs.List.{flat_map}
use Rattle.just_syntax.specs.Plain.{Expr, And, Assert, AssertOnly, Backtick, Call, Comparison, Concatenation, Conditional, ConditionalOnly, FormatString}
use Rattle.just_syntax.specs.Plain.{Group, Join, JoinOnly, ListOf, ListConcatenation, Not, Or, StringLiteral, Variable, Exprs, Nil, Cons, count}
use Rattle.just_syntax.specs.Plain.{Pieces, NoPiece, Piece}
use Rattle.just_syntax.specs.Lists.{IsIn}
use Rattle.just_syntax.specs.Occurrences.{CallAt, CommandAt, Mention, Occurrence, SomeOccurs, SomeOccursInPieces, SomeOccursInRow, occurrences_in}
use Rattle.just_syntax.specs.Occurrences.{VariableAt, mention_of, occurring, occurring_in_pieces, occurring_in_row}
use Rattle.just_syntax.proofs.Lists.{in_flat_map, in_one_more}

-- ---- something with a property

-- nothing is added
nothing : {A : Type 0} → A ↔ (A ⊎ ⊥)
nothing = ((λ a. inl a), (λ s. ⊎_elim (λ a. a) (λ e. absurd e) s))

-- one part is added, and then another
both : {A B C L R : Type 0} → A ↔ (B ⊎ R) → B ↔ (C ⊎ L) → A ↔ (C ⊎ (L ⊎ R))
both p q = (
  (λ a. ⊎_elim (λ b. ⊎_elim (λ c. inl c) (λ l. inr (inl l)) (q.0 b)) (λ r. inr (inr r)) (p.0 a)),
  (λ s. ⊎_elim (λ c. p.1 (inl (q.1 (inl c)))) (λ t. ⊎_elim (λ l. p.1 (inl (q.1 (inr l)))) (λ r. p.1 (inr r)) t) s),
)

module _ (P : Occurrence → Type 0) where
  -- one of these has the property
  abbrev Holds : List Occurrence → Type 0
  Holds os = (o : Occurrence) × IsIn os o × P o

  one : (os : List Occurrence) (o : Occurrence) → Holds (os ++ o ∷ []) ↔ (Holds os ⊎ P o)
  one os o = (
    (λ h. ⊎_elim (λ k. inl (h.0, k, h.2)) (λ same. inr (subst P (sym same) h.2)) ((in_one_more os o h.0).0 h.1)),
    (λ s. ⊎_elim (λ h. (h.0, (in_one_more os o h.0).1 (inl h.1), h.2)) (λ p. (o, (in_one_more os o o).1 (inr refl), p)) s),
  )

  mutual
    holds : (e : Expr) (os : List Occurrence) → Holds (occurring os e) ↔ (Holds os ⊎ SomeOccurs P e)
    holds (And l r) os = both (holds r (occurring os l)) (holds l os)
    holds (Assert e m t) os = both (holds m (occurring os e)) (holds e os)
    holds (AssertOnly e t) os = holds e os
    holds (Backtick text t) os = one os (CommandAt t text)
    holds (Call t es) os = both (row_holds es (os ++ CallAt t (count es) ∷ [])) (one os (CallAt t (count es)))
    holds (Comparison l o r t) os = both (holds r (occurring os l)) (holds l os)
    holds (Concatenation l t r) os = both (holds r (occurring os l)) (holds l os)
    holds (Conditional e a b) os = both (both (holds b (occurring (occurring os e) a)) (holds a (occurring os e))) (holds e os)
    holds (ConditionalOnly e a) os = both (holds a (occurring os e)) (holds e os)
    holds (FormatString start pieces) os = pieces_hold pieces os
    holds (Group e) os = holds e os
    holds (Join l t r) os = both (holds r (occurring os l)) (holds l os)
    holds (JoinOnly t r) os = holds r os
    holds (ListOf es t) os = row_holds es os
    holds (ListConcatenation l t r) os = both (holds r (occurring os l)) (holds l os)
    holds (Not e) os = holds e os
    holds (Or l r) os = both (holds r (occurring os l)) (holds l os)
    holds (StringLiteral literal) os = nothing
    holds (Variable t number) os = one os (VariableAt t number)

    row_holds : (es : Exprs) (os : List Occurrence) → Holds (occurring_in_row os es) ↔ (Holds os ⊎ SomeOccursInRow P es)
    row_holds Nil os = nothing
    row_holds (Cons e es) os = both (row_holds es (occurring os e)) (holds e os)

    pieces_hold : (pieces : Pieces) (os : List Occurrence) → Holds (occurring_in_pieces os pieces) ↔ (Holds os ⊎ SomeOccursInPieces P pieces)
    pieces_hold NoPiece os = nothing
    pieces_hold (Piece e literal pieces) os = both (pieces_hold pieces (occurring os e)) (holds e os)

  -- something with the property occurs if one of the occurrences has it
  pub some_occurs : (e : Expr) → ((o : Occurrence) × IsIn (occurrences_in e) o × P o) ↔ SomeOccurs P e
  some_occurs e = let all = holds e [] in ((λ h. ⊎_elim (λ none. absurd none.1) (λ k. k) (all.0 h)), (λ k. all.1 (inr k)))

-- What stands for a mention at an occurrence: the mention occurs in an expression if something that stands for it does.
module _ {A : Type 0} (P : Occurrence → Type 0) (mention : A → Mention) (there : (o : Occurrence) → P o ↔ ((a : A) × (mention_of o ≡ mention a))) where
  pub some_mentioned : (e : Expr) → ((o : Occurrence) × IsIn (occurrences_in e) o × P o) ↔ ((a : A) × SomeOccurs (λ o. mention_of o ≡ mention a) e)
  some_mentioned e = (
    (λ h. let m = (there h.0).0 h.2 in (m.0, (some_occurs (λ o. mention_of o ≡ mention m.0) e).0 (h.0, h.1, m.1))),
    (λ h. let o = (some_occurs (λ o. mention_of o ≡ mention h.0) e).1 h.1 in (o.0, o.1, (there o.0).1 (h.0, o.2))),
  )

-- the same for what is listed at occurrences
module _ {A Y : Type 0} (at : Occurrence → List Y) (y : Y) (mention : A → Mention)
    (there : (o : Occurrence) → IsIn (at o) y ↔ ((a : A) × (mention_of o ≡ mention a))) where
  pub listed_mentioned : (e : Expr) → IsIn (flat_map at (occurrences_in e)) y ↔ ((a : A) × SomeOccurs (λ o. mention_of o ≡ mention a) e)
  listed_mentioned e =
      let listed = in_flat_map at (occurrences_in e) y in
      let mentioned = some_mentioned (λ o. IsIn (at o) y) mention there e in
      ((λ h. mentioned.0 (listed.0 h)), (λ h. listed.1 (mentioned.1 h)))
