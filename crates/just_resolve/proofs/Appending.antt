-- Values that are inserted at the end of a table, and relations of lists.
use Rattle.std.proofs.Common.{◌≡◌, List, [], ◌∷◌, ◌++◌, map, refl, ap, ◌∙◌}
use Rattle.std.specs.Cmp.Lexicographic.{slice_cmp}
use Rattle.std.specs.List.{AllByRecursion}
use Rattle.std.specs.List.Sorted.{IsStrictlySortedBy}
use Rattle.std.specs.Ordering.{match_ordering, nat_cmp, ordering_reverse}
use Rattle.std.specs.declared.cmp.Ordering.TheVariants.{Less, Greater}
use Rattle.std.proofs.lemmas.Cmp.{nat_list_cmp_total}
use Rattle.std.proofs.lemmas.Map.Keys.{sorted_head, sorted_tail}
use Rattle.just_syntax.proofs.Maps.{seen_with}
use Rattle.just_resolve.specs.Prelude.{Pairwise, Text, with_value}

-- it holds of an element after others
all_there : {A : Type 0} (P : A → Type 0) (xs : List A) (x : A) (ys : List A) → AllByRecursion P (xs ++ x ∷ ys) → P x
all_there P [] x ys h = h.0
all_there P (z ∷ zs) x ys h = all_there P zs x ys h.1

module _ {V : Type 0} (key : V → Text) where
  -- a value whose key is above all others is inserted at the end
  pub at_end : (xs : List V) (v : V) (ks : List Text) → IsStrictlySortedBy (slice_cmp nat_cmp) (map key xs ++ key v ∷ ks) → with_value key xs v ≡ xs ++ v ∷ []
  at_end [] v ks h = refl
  at_end (x ∷ xs) v ks h =
      let less : slice_cmp nat_cmp (key x) (key v) ≡ Less =
      all_there (λ k. slice_cmp nat_cmp (key x) k ≡ Less) (map key xs) (key v) ks (sorted_head (slice_cmp nat_cmp) (key x) (map key xs ++ key v ∷ ks) h) in
      let greater : slice_cmp nat_cmp (key v) (key x) ≡ Greater =
      nat_list_cmp_total.antisymm (key v) (key x) ∙ ap ordering_reverse less in
      ap (λ o. match_ordering o (v ∷ x ∷ xs) (v ∷ xs) (x ∷ with_value key xs v)) greater
      ∙ ap (λ vs. x ∷ vs) (at_end xs v ks (sorted_tail (slice_cmp nat_cmp) (key x) (map key xs ++ key v ∷ ks) h))

  -- the same in a table of values that are viewed by f
  pub viewed_at_end : {X : Type 0} (f : X → V) (xs : List X) (x : X) (ks : List Text)
      → IsStrictlySortedBy (slice_cmp nat_cmp) (map key (map f xs) ++ key (f x) ∷ ks) → map f (with_value (λ y. key (f y)) xs x) ≡ map f xs ++ f x ∷ []
  viewed_at_end f xs x ks h = seen_with f key xs x ∙ at_end (map f xs) (f x) ks h

-- ---- lists of pairs

pub pairwise_more : {A B : Type 0} (R : A → B → Type 0) (xs : List A) (ys : List B) (x : A) (y : B) → Pairwise R xs ys → R x y
    → Pairwise R (xs ++ x ∷ []) (ys ++ y ∷ [])
pairwise_more R [] [] x y h r = (r, tt)
pairwise_more R [] (b ∷ ys) x y h r = absurd h
pairwise_more R (a ∷ xs) [] x y h r = absurd h
pairwise_more R (a ∷ xs) (b ∷ ys) x y h r = (h.0, pairwise_more R xs ys x y h.1 r)

pub pairwise_map : {A B D : Type 0} (R : A → B → Type 0) (f : D → A) (g : D → B) → ((d : D) → R (f d) (g d)) → (ds : List D) → Pairwise R (map f ds) (map g ds)
pairwise_map R f g holds [] = tt
pairwise_map R f g holds (d ∷ ds) = (holds d, pairwise_map R f g holds ds)

pub map_map : {A B D : Type 0} (f : B → D) (g : A → B) (xs : List A) → map f (map g xs) ≡ map (λ x. f (g x)) xs
map_map f g [] = refl
map_map f g (x ∷ xs) = ap (λ ys. f (g x) ∷ ys) (map_map f g xs)
