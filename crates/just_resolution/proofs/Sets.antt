-- The members of sets after an insertion, and the rest of lists.
use Rattle.std.proofs.Common.{◌≡◌, ◌↔◌, ◌⊎◌, inl, inr, ⊎_elim, ℕ, Bool, suc, ◌+◌, ◌-◌, ◌<◌, arith, length-drop, true, false, cond, List, [], ◌∷◌, ◌++◌, length}
use Rattle.std.proofs.Common.{map, take, drop, drop-cons, add-one, get_or, ap, sym, ◌∙◌, subst, IsTrue}
use Rattle.std.specs.BTreeSet.{BTreeSet, contains}
use Rattle.std.specs.BTreeMap.{is_at}
use Rattle.std.specs.List.{list_any}
use Rattle.std.specs.Ordering.{eq_by_cmp, nat_cmp}
use Rattle.std.proofs.lemmas.List.{drop-map, map_more, take_all}
use Rattle.std.proofs.Math.Seq.{drop-append_seam}
use Rattle.just_syntax.proofs.Members.{added, number_decides}
use Rattle.just_resolution.specs.Prelude.{IsAmong, IsIn, Token, is_number_in}

-- a set with one more number
pub number_added : (old new : BTreeSet ℕ) (k : ℕ) → ((q : ℕ) → contains nat_cmp new q ≡ cond (is_at (nat_cmp k) q) true (contains nat_cmp old q)) → (n : ℕ)
    → IsTrue (is_number_in new n) ↔ ((k ≡ n) ⊎ IsTrue (is_number_in old n))
number_added old new k updates n = added (k ≡ n) (eq_by_cmp nat_cmp k n) (is_number_in old n) (is_number_in new n) (number_decides k n) (updates n)

-- nothing is in an empty set
pub no_number : (set : BTreeSet ℕ) → set.keys ≡ [] → (n : ℕ) → is_number_in set n ≡ false
no_number set empty n = ap (list_any (is_at (nat_cmp n))) empty

-- ---- a list with the members of a set

-- neither has one
pub no_member : (seen : ℕ → Bool) → ((n : ℕ) → seen n ≡ false) → (n : ℕ) → IsIn [] n ↔ IsTrue (seen n)
no_member seen none n = ((λ h. absurd h), (λ h. absurd (let e : false ≡ true = sym (none n) ∙ h in cc)))

-- both have one more
pub one_member_more : (seen more : ℕ → Bool) (numbers : List ℕ) (k : ℕ) → ((n : ℕ) → IsIn numbers n ↔ IsTrue (seen n))
    → ((n : ℕ) → IsTrue (more n) ↔ ((k ≡ n) ⊎ IsTrue (seen n))) → (n : ℕ) → IsIn (k ∷ numbers) n ↔ IsTrue (more n)
one_member_more seen more numbers k same adds n = (
  (λ h. (adds n).1 (⊎_elim (λ e. inl e) (λ j. inr ((same n).0 j)) h)),
  (λ h. ⊎_elim (λ e. inl e) (λ j. inr ((same n).1 j)) ((adds n).0 h)),
)

-- ---- the rest of a list

-- it begins with the item
pub front : {X : Type 0} (xs : List X) (i : ℕ) (x : X) → i < length xs → x ≡ get_or xs i x → drop i xs ≡ x ∷ drop (i + 1) xs
front xs i x h is = drop-cons xs i x h ∙ ap (λ y. y ∷ drop (suc i) xs) (sym is) ∙ ap (λ j. x ∷ drop j xs) (sym (add-one i))

-- the same for an item with a default
pub front_at : {X : Type 0} (xs : List X) (i : ℕ) (d : X) → i < length xs → drop i xs ≡ get_or xs i d ∷ drop (i + 1) xs
front_at xs i d h = drop-cons xs i d h ∙ ap (λ j. get_or xs i d ∷ drop j xs) (sym (add-one i))

-- ---- the numbers of parameters

among_append : (ps : List (Token × ℕ)) (p : Token × ℕ) (n : ℕ) → IsAmong (ps ++ p ∷ []) n ↔ ((p.1 ≡ n) ⊎ IsAmong ps n)
among_append [] p n = ((λ h. h), (λ h. h))
among_append (x ∷ xs) p n =
    let rest = among_append xs p n in (
      (λ h. ⊎_elim (λ e. inr (inl e)) (λ k. ⊎_elim (λ e. inl e) (λ j. inr (inr j)) (rest.0 k)) h),
      (λ h. ⊎_elim (λ e. inr (rest.1 (inl e))) (λ k. ⊎_elim (λ e. inl e) (λ j. inr (rest.1 (inr j))) k) h),
    )

-- one more item was visited
pub taken_more : {X Y : Type 0} (seen : X → Y) (xs : List X) (i : ℕ) (x : X) → i < length xs → x ≡ get_or xs i x
    → map seen (take (i + 1) xs) ≡ map seen (take i xs) ++ seen x ∷ []
taken_more seen xs i x within is = map_more seen xs i x within ∙ ap (λ y. map seen (take i xs) ++ seen y ∷ []) (sym is)

-- one parameter more
pub own_more : {X : Type 0} (pair : X → Token × ℕ) (xs : List X) (i : ℕ) (x : X) (old new : BTreeSet ℕ) (n : ℕ) → i < length xs → x ≡ get_or xs i x →
    IsTrue (is_number_in old n) ↔ IsAmong (map pair (take i xs)) n → IsTrue (is_number_in new n) ↔ (((pair x).1 ≡ n) ⊎ IsTrue (is_number_in old n)) →
    IsTrue (is_number_in new n) ↔ IsAmong (map pair (take (i + 1) xs)) n
own_more pair xs i x old new n within is was now =
    let more = taken_more pair xs i x within is in
    let all = among_append (map pair (take i xs)) (pair x) n in (
      (λ h. subst (λ ps. IsAmong ps n) (sym more) (all.1 (⊎_elim (λ e. inl e) (λ k. inr (was.0 k)) (now.0 h)))),
      (λ h. now.1 (⊎_elim (λ e. inl e) (λ k. inr (was.1 k)) (all.0 (subst (λ ps. IsAmong ps n) more h)))),
    )

-- dropping a list leaves what was appended to it
pub after : {X Y : Type 0} (seen : X → Y) (all : List X) (first more : List Y) (n : ℕ) → map seen all ≡ first ++ more → n ≡ length first
    → map seen (take (length all - n) (drop n all)) ≡ more
after seen all first more n is size =
    ap (map seen) (take_all (length all - n) (drop n all) (let l = length-drop n all in omega (arith, l))) ∙ sym (drop-map seen n all) ∙ ap (drop n) is
    ∙ ap (λ k. drop k (first ++ more)) size ∙ drop-append_seam first more
