-- Checking numbers, one after another.
use Rattle.std.proofs.Common.{◌≡◌, ◌↔◌, ◌⊎◌, ℕ, Bool, true, false, not, List, [], ◌∷◌, Some, None, refl, sym, ◌∙◌, subst, IsTrue}
use Rattle.std.proofs.lemmas.Bool.{not-false, not-true}
use Rattle.just_resolution.specs.Prelude.{Assignments, Finds, Frames, Function, IsFaulty, IsIn, IsSound, NumberOf, Token, number_places}
use Rattle.just_resolution.specs.Fault.{DuplicateNumber}
use Rattle.just_resolution.proofs.Finding.{Leads, leads_off, leads_on}
use Rattle.just_resolution.proofs.Sets.{no_member, one_member_more}

-- A list of the numbers seen so far, with the same members as the set; and what is found in the rest is found in all.
pub record IsCountedTo (seen : ℕ → Bool) (left all : List (Token × ℕ)) : Type 0 where
  pub earlier : List ℕ
  pub same : (n : ℕ) → IsIn earlier n ↔ IsTrue (seen n)
  pub leads : (functions : List Function) (assignments : Assignments) (outer : Frames)
      → Leads (IsSound functions assignments outer) (IsFaulty functions assignments outer) (number_places earlier left) (number_places [] all)

-- no number was seen yet
pub counts_from : (seen : ℕ → Bool) (all : List (Token × ℕ)) → ((n : ℕ) → seen n ≡ false) → IsCountedTo seen all all
counts_from seen all none = record {
  earlier = [];
  same = no_member seen none;
  leads = λ functions assignments outer r h. h;
}

module _ (seen : ℕ → Bool) (p : Token × ℕ) (left start all : List (Token × ℕ)) (added : Bool) (is : start ≡ p ∷ left)
    (new : added ≡ not (seen p.1)) (counted : IsCountedTo seen start all) where
  next : IsCountedTo seen (p ∷ left) all
  next = subst (λ xs. IsCountedTo seen xs all) is counted

  -- one more number was seen
  pub counts_on : (more : ℕ → Bool) → added ≡ true → ((n : ℕ) → IsTrue (more n) ↔ ((p.1 ≡ n) ⊎ IsTrue (seen n)))
      → IsCountedTo more left all
  counts_on more on adds =
      let c = next in
      let out : seen p.1 ≡ false = not-true (seen p.1) (sym new ∙ on) in
      record {
        earlier = p.1 ∷ c.earlier;
        same = one_member_more seen more c.earlier p.1 c.same adds;
        leads = λ functions assignments outer.
            leads_on (IsSound functions assignments outer) (IsFaulty functions assignments outer) (number_places c.earlier (p ∷ left))
            (number_places (p.1 ∷ c.earlier) left) (number_places [] all) (c.leads functions assignments outer)
            (NumberOf p.0 p.1 c.earlier) refl (λ one. let there : seen p.1 ≡ true = (c.same p.1).0 one in let e : false ≡ true =
            sym out ∙ there in cc);
      }

  -- this number was seen before
  pub counts_off : added ≡ false → (functions : List Function) (assignments : Assignments) (outer : Frames)
      → Finds (IsSound functions assignments outer) (IsFaulty functions assignments outer) (number_places [] all) (Some (DuplicateNumber p.0))
  counts_off off functions assignments outer =
      let c = next in
      leads_off (IsSound functions assignments outer) (IsFaulty functions assignments outer) (number_places c.earlier (p ∷ left))
      (number_places (p.1 ∷ c.earlier) left) (number_places [] all) (c.leads functions assignments outer)
      (NumberOf p.0 p.1 c.earlier) (DuplicateNumber p.0) refl (refl, (c.same p.1).1 (not-false (seen p.1) (sym new ∙ off)))

-- all were seen
pub counts_end : (seen : ℕ → Bool) (left all : List (Token × ℕ)) → left ≡ [] → IsCountedTo seen left all
    → (functions : List Function) (assignments : Assignments) (outer : Frames) →
    Finds (IsSound functions assignments outer) (IsFaulty functions assignments outer) (number_places [] all) None
counts_end seen left all none counted functions assignments outer = let c =
    subst (λ xs. IsCountedTo seen xs all) none counted in c.leads functions assignments outer None tt
