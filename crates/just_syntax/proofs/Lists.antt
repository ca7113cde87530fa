-- Lists: membership, properties of all elements, and the rest from an index on.
use Rattle.std.proofs.Common.{◌≡◌, ◌≢◌, ◌↔◌, ◌⊎◌, inl, inr, ⊎_elim, ℕ, zero, suc, ◌+◌, ◌<◌, List, [], ◌∷◌, ◌++◌, map, length, get_or, drop, refl, sym, ap}
use Rattle.std.proofs.Common.{◌∙◌, subst, add-one, arith, drop-cons, Contains}
use Rattle.std.specs.List.{AllByRecursion, flat_map}
use Rattle.just_syntax.specs.Lists.{IsIn}

pub in_append : {A : Type 0} (xs ys : List A) (x : A) → IsIn (xs ++ ys) x ↔ (IsIn xs x ⊎ IsIn ys x)
in_append [] ys x = ((λ h. inr h), (λ h. ⊎_elim (λ k. absurd k) (λ k. k) h))
in_append (y ∷ xs) ys x =
    let rest = in_append xs ys x in (
      (λ h. ⊎_elim (λ k. inl (inl k)) (λ k. ⊎_elim (λ j. inl (inr j)) (λ j. inr j) (rest.0 k)) h),
      (λ h. ⊎_elim (λ k. ⊎_elim (λ j. inl j) (λ j. inr (rest.1 (inl j))) k) (λ k. inr (rest.1 (inr k))) h),
    )

-- one element more at the end
pub in_one_more : {A : Type 0} (xs : List A) (y x : A) → IsIn (xs ++ y ∷ []) x ↔ (IsIn xs x ⊎ (y ≡ x))
in_one_more xs y x =
    let both = in_append xs (y ∷ []) x in (
      (λ h. ⊎_elim (λ k. inl k) (λ k. ⊎_elim (λ e. inr e) (λ bad. absurd bad) k) (both.0 h)),
      (λ s. ⊎_elim (λ k. both.1 (inl k)) (λ e. both.1 (inr (inl e))) s),
    )

pub in_first : {A : Type 0} (xs ys : List A) (x : A) → IsIn xs x → IsIn (xs ++ ys) x
in_first xs ys x h = (in_append xs ys x).1 (inl h)

pub in_second : {A : Type 0} (xs ys : List A) (x : A) → IsIn ys x → IsIn (xs ++ ys) x
in_second xs ys x h = (in_append xs ys x).1 (inr h)

-- an element of a mapped list
pub in_map : {A B : Type 0} (f : A → B) (xs : List A) (y : B) → IsIn (map f xs) y ↔ ((x : A) × IsIn xs x × (f x ≡ y))
in_map f [] y = ((λ h. absurd h), (λ h. absurd h.1))
in_map f (x ∷ xs) y =
    let rest = in_map f xs y in (
      (λ h. ⊎_elim (λ e. (x, inl refl, e)) (λ k. let r = rest.0 k in (r.0, inr r.1, r.2)) h),
      (λ h. ⊎_elim (λ e. inl (ap f e ∙ h.2)) (λ k. inr (rest.1 (h.0, k, h.2))) h.1),
    )

-- an element of one of the lists that are joined
pub in_flat_map : {A B : Type 0} (f : A → List B) (xs : List A) (y : B) → IsIn (flat_map f xs) y ↔ ((x : A) × IsIn xs x × IsIn (f x) y)
in_flat_map f [] y = ((λ h. absurd h), (λ h. absurd h.1))
in_flat_map f (x ∷ xs) y =
    let rest = in_flat_map f xs y in
    let both = in_append (f x) (flat_map f xs) y in (
      (λ h. ⊎_elim (λ k. (x, inl refl, k)) (λ k. let r = rest.0 k in (r.0, inr r.1, r.2)) (both.0 h)),
      (λ h. ⊎_elim (λ e. both.1 (inl (subst (λ z. IsIn (f z) y) (sym e) h.2))) (λ k. both.1 (inr (rest.1 (h.0, k, h.2)))) h.1),
    )

-- membership is std's `Contains`, which is by position
pub in_of : {A : Type 0} (xs : List A) (x : A) → Contains xs x → IsIn xs x
in_of [] x (k, below, at) = absurd (omega arith)
in_of (y ∷ ys) x (zero, below, at) = inl at
in_of (y ∷ ys) x (suc k, below, at) = inr (in_of ys x (k, omega arith, at))

pub of_in : {A : Type 0} (xs : List A) (x : A) → IsIn xs x → Contains xs x
of_in [] x h = absurd h
of_in (y ∷ ys) x (inl same) = (zero, omega arith, same)
of_in (y ∷ ys) x (inr later) = let h = of_in ys x later in (suc h.0, omega arith, h.2)

-- ---- properties of all elements

module _ {A : Type 0} (P : A → Type 0) where
  pub all_append : (xs ys : List A) → AllByRecursion P (xs ++ ys) ↔ (AllByRecursion P xs × AllByRecursion P ys)
  all_append [] ys = ((λ h. (tt, h)), (λ h. h.1))
  all_append (x ∷ xs) ys =
      let rest = all_append xs ys in ((λ h. let r = rest.0 h.1 in ((h.0, r.0), r.1)), (λ h. (h.0.0, rest.1 (h.0.1, h.1))))

  pub all_front : (xs ys : List A) → AllByRecursion P (xs ++ ys) → AllByRecursion P xs
  all_front xs ys h = ((all_append xs ys).0 h).0

  pub all_after : (xs ys : List A) → AllByRecursion P (xs ++ ys) → AllByRecursion P ys
  all_after xs ys h = ((all_append xs ys).0 h).1

  pub all_map : {B : Type 0} (f : B → A) (xs : List B) → AllByRecursion P (map f xs) ↔ AllByRecursion (λ x. P (f x)) xs
  all_map f [] = ((λ h. h), (λ h. h))
  all_map f (x ∷ xs) = let rest = all_map f xs in ((λ h. (h.0, rest.0 h.1)), (λ h. (h.0, rest.1 h.1)))

  pub all_alike : (Q : A → Type 0) → ((x : A) → P x → Q x) → (xs : List A) → AllByRecursion P xs → AllByRecursion Q xs
  all_alike Q on [] h = tt
  all_alike Q on (x ∷ xs) h = (on x h.0, all_alike Q on xs h.1)

  -- each element has the property, by membership
  pub each_in : (xs : List A) → AllByRecursion P xs → (x : A) → IsIn xs x → P x
  each_in [] h x none = absurd none
  each_in (y ∷ ys) h x (inl same) = subst P same h.0
  each_in (y ∷ ys) h x (inr later) = each_in ys h.1 x later

  pub all_in : (xs : List A) → ((x : A) → IsIn xs x → P x) → AllByRecursion P xs
  all_in [] h = tt
  all_in (y ∷ ys) h = (h y (inl refl), all_in ys (λ x later. h x (inr later)))

-- the rest from an index on, viewed by f, begins with the element there
pub rest_from : {A B : Type 0} (f : A → B) (xs : List A) (i : ℕ) (x : A) → i < length xs → x ≡ get_or xs i x → map f (drop i xs) ≡ f x ∷ map f (drop (i + 1) xs)
rest_from f xs i x h is =
    ap (map f) (drop-cons xs i x h)
    ∙ ap (λ y. f y ∷ map f (drop (suc i) xs)) (sym is)
    ∙ ap (λ j. f x ∷ map f (drop j xs)) (sym (add-one i))

-- ---- bytes

-- no byte of the text is this one
abbrev pub LacksByte : ℕ → List ℕ → Type 0
LacksByte c text = (i : ℕ) → i < length text → get_or text i 0 ≢ c
