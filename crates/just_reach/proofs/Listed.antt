-- The list of what occurs in an expression.
use Rattle.std.proofs.Common.{◌≡◌, ◌∙◌, ◌↔◌, ◌⊎◌, inl, inr, ⊎_elim, List, [], ◌∷◌, ◌++◌, Option, Some, None, ap, refl, sym, append_assoc}
use Rattle.std.proofs.lemmas.List.{append-nil}
use Rattle.just_syntax.specs.Plain.{Function, Expr}
use Rattle.just_syntax.specs.Lists.{IsIn}
use Rattle.just_syntax.specs.Occurrences.{Occurrence, occurrences_in}
use Rattle.just_syntax.proofs.Lists.{in_one_more}
use Rattle.just_syntax.proofs.Occurring.{some_occurs}
use Rattle.just_reach.specs.Member.{PlainMember, member_of}
use Rattle.just_reach.specs.Members.{members, members_of_body, with_members}
use Rattle.just_reach.specs.Reached.{OccursAt}

module _ (fs : List Function) where
  -- what is added to a list does not depend on it
  appended : (os : List Occurrence) (ms : List PlainMember) → with_members fs ms os ≡ ms ++ with_members fs [] os
  appended [] ms = sym (append-nil ms)
  appended (o ∷ os) ms =
      appended os (ms ++ member_of fs o ∷ []) ∙ append_assoc ms (member_of fs o ∷ []) (with_members fs [] os)
      ∙ ap (λ xs. ms ++ xs) (sym (appended os (member_of fs o ∷ [])))

  pub body_appended : (o : Option Function) (ms : List PlainMember) → members_of_body fs ms o ≡ ms ++ members_of_body fs [] o
  body_appended None ms = sym (append-nil ms)
  body_appended (Some f) ms = appended (occurrences_in f.body) ms

  module _ (x : PlainMember) where
    -- it is one of these occurrences
    abbrev IsOneOf : List Occurrence → Type 0
    IsOneOf os = (o : Occurrence) × IsIn os o × (member_of fs o ≡ x)

    among : (os : List Occurrence) (ms : List PlainMember) → IsIn (with_members fs ms os) x ↔ (IsIn ms x ⊎ IsOneOf os)
    among [] ms = ((λ h. inl h), (λ s. ⊎_elim (λ h. h) (λ none. absurd none.1) s))
    among (o ∷ os) ms =
        let rest = among os (ms ++ member_of fs o ∷ []) in
        let one = in_one_more ms (member_of fs o) x in (
          (λ h. ⊎_elim (λ k. ⊎_elim (λ j. inl j) (λ is. inr (o, inl refl, is)) (one.0 k)) (λ k. inr (k.0, inr k.1, k.2)) (rest.0 h)),
          (λ s. rest.1 (⊎_elim (λ k. inl (one.1 (inl k)))
              (λ k. ⊎_elim (λ same. inl (one.1 (inr (ap (member_of fs) same ∙ k.2)))) (λ later. inr (k.0, later, k.2)) k.1) s)),
        )

  -- what is added is what occurs
  pub added : (ms : List PlainMember) (e : Expr) (x : PlainMember) → IsIn (members fs ms e) x ↔ (IsIn ms x ⊎ OccursAt fs e x)
  added ms e x =
      let all = among x (occurrences_in e) ms in
      let occurs = some_occurs (λ o. member_of fs o ≡ x) e in
      ((λ h. ⊎_elim (λ k. inl k) (λ k. inr (occurs.0 k)) (all.0 h)), (λ s. all.1 (⊎_elim (λ k. inl k) (λ k. inr (occurs.1 k)) s)))

  -- the list of an expression
  pub listed : (e : Expr) (x : PlainMember) → IsIn (members fs [] e) x ↔ OccursAt fs e x
  listed e x = let h = added [] e x in ((λ k. ⊎_elim (λ bad. absurd bad) (λ o. o) (h.0 k)), (λ o. h.1 (inr o)))
