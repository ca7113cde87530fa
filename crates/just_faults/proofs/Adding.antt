-- Faults of items, added one after another.
use Rattle.std.proofs.Common.{◌≡◌, inl, inr, List, [], ◌∷◌, ◌++◌, map, Option, Some, None, MatchOption, option_map, refl, sym, ◌∙◌, subst, append_assoc}
use Rattle.std.specs.List.{AllByRecursion}
use Rattle.std.proofs.lemmas.List.{append-nil}
use Rattle.just_faults.specs.Prelude.{Adds, FindsAll, IsFirstFaulty, with_some}

module _ {X F : Type 0} (sound : X → Type 0) (faulty : X → F → Type 0) where
  -- ---- what was added

  sound_first : (x : X) (xs : List X) (fs : List F) → sound x → FindsAll sound faulty xs fs → FindsAll sound faulty (x ∷ xs) fs
  sound_first x xs [] fine h = (fine, h)
  sound_first x xs (f ∷ fs) fine h = inl (fine, h)

  found_of : (xs : List X) (old new : List F) → Adds sound faulty xs old new → (found : List F) × (new ≡ old ++ found) × FindsAll sound faulty xs found
  found_of [] old new h = ([], sym h ∙ sym (append-nil old), tt)
  found_of (x ∷ xs) old new (inl h) = let r = found_of xs old new h.1 in (r.0, r.1, sound_first x xs r.0 h.0 r.2)
  found_of (x ∷ xs) old new (inr h) =
      let r = found_of xs (old ++ h.0 ∷ []) new h.2 in (h.0 ∷ r.0, r.1 ∙ append_assoc old (h.0 ∷ []) r.0, inr (h.1, r.2))

  -- what is added to no fault is all that is found
  pub all_found : (xs : List X) (new : List F) → Adds sound faulty xs [] new → FindsAll sound faulty xs new
  all_found xs new h = let r = found_of xs [] new h in subst (FindsAll sound faulty xs) (sym r.1) r.2

  -- each item is sound if nothing is found
  pub none_found : (xs : List X) → FindsAll sound faulty xs [] → AllByRecursion sound xs
  none_found [] h = tt
  none_found (x ∷ xs) h = (h.0, none_found xs h.1)

  -- the first of all is the one that a search for the first finds
  pub first_found : (xs : List X) (f : F) (fs : List F) → FindsAll sound faulty xs (f ∷ fs) → IsFirstFaulty sound (λ x. faulty x f) xs
  first_found [] f fs h = absurd h
  first_found (x ∷ xs) f fs (inl h) = inr (h.0, first_found xs f fs h.1)
  first_found (x ∷ xs) f fs (inr h) = inl h.0

  -- ---- one part after another

  pub adds_both : (xs ys : List X) (old mid new : List F) → Adds sound faulty xs old mid → Adds sound faulty ys mid new → Adds sound faulty (xs ++ ys) old new
  adds_both [] ys old mid new h k = subst (λ fs. Adds sound faulty ys fs new) (sym h) k
  adds_both (x ∷ xs) ys old mid new (inl h) k = inl (h.0, adds_both xs ys old mid new h.1 k)
  adds_both (x ∷ xs) ys old mid new (inr h) k = inr (h.0, h.1, adds_both xs ys (old ++ h.0 ∷ []) mid new h.2 k)

  -- what the rest adds to the faults so far is what all items add to the old ones
  abbrev pub Continues : List X → List X → List F → List F → Type 0
  Continues left all old now = (new : List F) → Adds sound faulty left now new → Adds sound faulty all old new

  module _ (start left all : List X) (old now : List F) (before : Continues start all old now) where
    -- one more item, sound or faulty
    pub continues_on : (x : X) (r : Option F) (next : List F) → start ≡ x ∷ left → MatchOption r (sound x) (faulty x) → next ≡ with_some now r
        → Continues left all old next
    continues_on x None next is fine same new h =
        before new (subst (λ xs. Adds sound faulty xs now new) (sym is) (inl (fine, subst (λ fs. Adds sound faulty left fs new) same h)))
    continues_on x (Some f) next is bad same new h =
        before new (subst (λ xs. Adds sound faulty xs now new) (sym is) (inr (f, bad, subst (λ fs. Adds sound faulty left fs new) same h)))

    -- several more
    pub continues_past : (front : List X) (next : List F) → start ≡ front ++ left → Adds sound faulty front now next → Continues left all old next
    continues_past front next is found new h =
        before new (subst (λ xs. Adds sound faulty xs now new) (sym is) (adds_both front left now next new found h))

  -- none is left
  pub continues_end : (left all : List X) (old now : List F) → left ≡ [] → Continues left all old now → Adds sound faulty all old now
  continues_end left all old now none before = before now (subst (λ xs. Adds sound faulty xs now now) (sym none) refl)

-- the same through a view of the items
module _ {X Y F : Type 0} (sound : Y → Type 0) (faulty : Y → F → Type 0) (on : X → Y) where
  pub adds_map : (xs : List X) (old new : List F) → Adds (λ x. sound (on x)) (λ x f. faulty (on x) f) xs old new → Adds sound faulty (map on xs) old new
  adds_map [] old new h = h
  adds_map (x ∷ xs) old new (inl h) = inl (h.0, adds_map xs old new h.1)
  adds_map (x ∷ xs) old new (inr h) = inr (h.0, h.1, adds_map xs (old ++ h.0 ∷ []) new h.2)

-- what holds of a result through a view holds of the view
pub seen_found : {A F : Type 0} (seen : A → F) (P : Type 0) (Q : F → Type 0) (r : Option A) → MatchOption r P (λ x. Q (seen x))
    → MatchOption (option_map seen r) P Q
seen_found seen P Q None h = h
seen_found seen P Q (Some x) h = h
