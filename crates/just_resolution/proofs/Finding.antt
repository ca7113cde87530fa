-- Searches among items, one after another.
use Rattle.std.proofs.Common.{◌≡◌, ◌↔◌, inl, inr, ⊎_elim, true, false, List, [], ◌∷◌, ◌++◌, map, Option, Some, None, is_some, option_map, refl, sym, subst}
use Rattle.std.specs.List.{AllByRecursion}
use Rattle.just_syntax.proofs.Lists.{all_alike, all_append, all_map}
use Rattle.just_resolution.specs.Prelude.{Finds}
use Rattle.just_resolution.specs.First.{IsFirstFaulty}

-- ---- options

pub some_seen : {A F : Type 0} (seen : A → F) (o : Option A) → is_some (option_map seen o) ≡ is_some o
some_seen seen None = refl
some_seen seen (Some x) = refl

module _ {X F : Type 0} (sound : X → Type 0) (faulty : X → F → Type 0) where
  first_left : (xs ys : List X) (f : F) → IsFirstFaulty sound (λ x. faulty x f) xs → IsFirstFaulty sound (λ x. faulty x f) (xs ++ ys)
  first_left [] ys f h = absurd h
  first_left (x ∷ xs) ys f h = ⊎_elim (λ bad. inl bad) (λ later. inr (later.0, first_left xs ys f later.1)) h

  first_right : (xs ys : List X) (f : F) → AllByRecursion sound xs → IsFirstFaulty sound (λ x. faulty x f) ys → IsFirstFaulty sound (λ x. faulty x f) (xs ++ ys)
  first_right [] ys f all h = h
  first_right (x ∷ xs) ys f all h = inr (all.0, first_right xs ys f all.1 h)

  -- what is found in a front is found in the whole
  pub finds_left : (xs ys : List X) (r : Option F) → is_some r ≡ true → Finds sound faulty xs r → Finds sound faulty (xs ++ ys) r
  finds_left xs ys None some h = absurd (let e : false ≡ true = some in cc)
  finds_left xs ys (Some f) some h = first_left xs ys f h

  -- each item is sound if nothing is found
  pub sound_if : (xs : List X) (r : Option F) → is_some r ≡ false → Finds sound faulty xs r → AllByRecursion sound xs
  sound_if xs None none h = h
  sound_if xs (Some f) none h = absurd (let e : true ≡ false = none in cc)

  -- what is found after a sound front
  pub finds_right : (xs ys : List X) (r : Option F) → AllByRecursion sound xs → Finds sound faulty ys r → Finds sound faulty (xs ++ ys) r
  finds_right xs ys None all h = (all_append sound xs ys).1 (all, h)
  finds_right xs ys (Some f) all h = first_right xs ys f all h

  -- what is found among the rest is found among all
  abbrev pub Leads : List X → List X → Type 0
  Leads left all = (r : Option F) → Finds sound faulty left r → Finds sound faulty all r

  module _ (start left all : List X) (before : Leads start all) where
    -- one more item is sound
    pub leads_on : (x : X) → start ≡ x ∷ left → sound x → Leads left all
    leads_on x is fine None h = before None (subst (λ xs. Finds sound faulty xs None) (sym is) (fine, h))
    leads_on x is fine (Some f) h = before (Some f) (subst (λ xs. Finds sound faulty xs (Some f)) (sym is) (inr (fine, h)))

    -- one item is faulty
    pub leads_off : (x : X) (f : F) → start ≡ x ∷ left → faulty x f → Finds sound faulty all (Some f)
    leads_off x f is bad = before (Some f) (subst (λ xs. Finds sound faulty xs (Some f)) (sym is) (inl bad))

    -- nothing is found in a part
    pub leads_past : (front : List X) (r : Option F) → start ≡ front ++ left → is_some r ≡ false → Finds sound faulty front r → Leads left all
    leads_past front r is none found s h = before s (subst (λ xs. Finds sound faulty xs s) (sym is) (finds_right front left s (sound_if front r none found) h))

    -- something is found in a part
    pub leads_out : (front : List X) (r : Option F) → start ≡ front ++ left → is_some r ≡ true → Finds sound faulty front r → Finds sound faulty all r
    leads_out front r is some found = before r (subst (λ xs. Finds sound faulty xs r) (sym is) (finds_left front left r some found))

  -- none is left
  pub leads_end : (left all : List X) → left ≡ [] → Leads left all → Finds sound faulty all None
  leads_end left all none before = before None (subst (AllByRecursion sound) (sym none) tt)

  module _ (apart : (x : X) (f : F) → faulty x f → sound x → ⊥) where
    pub not_sound : (xs : List X) (f : F) → IsFirstFaulty sound (λ x. faulty x f) xs → AllByRecursion sound xs → ⊥
    not_sound [] f h all = h
    not_sound (x ∷ xs) f h all = ⊎_elim (λ bad. apart x f bad all.0) (λ later. not_sound xs f later.1 all.1) h

    -- nothing is found exactly if each item is sound
    pub finds_none : (xs : List X) (r : Option F) → Finds sound faulty xs r → (is_some r ≡ false) ↔ AllByRecursion sound xs
    finds_none xs None h = ((λ e. h), (λ all. refl))
    finds_none xs (Some f) h = ((λ e. absurd (let off : true ≡ false = e in cc)), (λ all. absurd (not_sound xs f h all)))

-- a search among items through a view of them
module _ {X Y F : Type 0} (sound : Y → Type 0) (faulty : Y → F → Type 0) (on : X → Y) where
  first_map : (xs : List X) (f : F) → IsFirstFaulty (λ x. sound (on x)) (λ x. faulty (on x) f) xs → IsFirstFaulty sound (λ y. faulty y f) (map on xs)
  first_map [] f h = absurd h
  first_map (x ∷ xs) f h = ⊎_elim (λ bad. inl bad) (λ later. inr (later.0, first_map xs f later.1)) h

  pub finds_map : (xs : List X) (r : Option F) → Finds (λ x. sound (on x)) (λ x f. faulty (on x) f) xs r → Finds sound faulty (map on xs) r
  finds_map xs None h = (all_map sound on xs).1 h
  finds_map xs (Some f) h = first_map xs f h

-- the same search with equivalent properties
module _ {X F : Type 0} (sound other : X → Type 0) (faulty wrong : X → F → Type 0) (on : (x : X) → sound x → other x) (bad : (x : X) (f : F)
    → faulty x f → wrong x f) where
  first_alike : (xs : List X) (f : F) → IsFirstFaulty sound (λ x. faulty x f) xs → IsFirstFaulty other (λ x. wrong x f) xs
  first_alike [] f h = absurd h
  first_alike (x ∷ xs) f h = ⊎_elim (λ k. inl (bad x f k)) (λ later. inr (on x later.0, first_alike xs f later.1)) h

  pub finds_alike : (xs : List X) (r : Option F) → Finds sound faulty xs r → Finds other wrong xs r
  finds_alike xs None h = all_alike sound other on xs h
  finds_alike xs (Some f) h = first_alike xs f h
