-- Bindings with strictly increasing numbers, as a frame.
use Rattle.std.proofs.Common.{◌≡◌, ℕ, ◌-◌, true, List, [], length, get_or, set, map, Some, None, Ok, Err, refl, ap, sym, subst, ◌∙◌, Ordering, Less, Equal}
use Rattle.std.proofs.Common.{Greater, nat_cmp, is_eq, is_lt, insert}
use Rattle.std.specs.List.Sorted.{IsStrictlySortedBy}
use Rattle.std.specs.Map.{values_of}
use Rattle.std.proofs.Math.Seq.{map-set_same}
use Rattle.std.proofs.lemmas.Cmp.{nat_cmp_total, ranked}
use Rattle.std.proofs.lemmas.Simd.{map-map}
use Rattle.just_value.specs.declared.binding.Binding.{Binding}
use Rattle.just_value.specs.Prelude.{AreRising, Bound, IsPlace, IsRising, bound_at, bound_view, frame_view, with_bound}
use Rattle.just_value.proofs.Inserted.{insert_at, rising_inserted, set_at}
use Rattle.just_value.proofs.Places.{at_end, at_start, below_place, lookup_at, lookup_between, rising_by_key, ties_back}

pub nothing_rises : AreRising []
unfolding IsStrictlySortedBy
nothing_rises = tt

-- the values of a frame
pub values_seen : (bs : List Binding) → map bound_view bs ≡ values_of (frame_view bs)
values_seen bs = sym (map-map (λ (e : ℕ × Bound). e.1) (λ (b : Binding). (b.number, bound_view b)) bs)

pub rising_seen : (bs : List Binding) → AreRising bs → IsRising (map bound_view bs)
rising_seen bs rising = subst (IsStrictlySortedBy nat_cmp) (sym (map-map (λ (b : Bound). b.number) bound_view bs)) rising

less : (o : Ordering) → is_lt o ≡ true → o ≡ Less
less Less h = refl
less Equal h = cc
less Greater h = cc

-- a number greater than the last
pub past_last : (bs : List Binding) → AreRising bs → (n : ℕ) (last : Binding) → ((d : Binding) → last ≡ get_or bs (length bs - 1) d)
    → is_lt (nat_cmp last.number n) ≡ true → IsPlace (λ b. nat_cmp b.number n) bs (Err (length bs))
past_last bs rising n last is lt = at_end (λ b. b.number) nat_cmp_total bs (rising_by_key (λ b. b.number) nat_cmp bs rising) n
    (λ d. ap (λ (b : Binding). nat_cmp b.number n) (sym (is d)) ∙ less _ lt)

module _ (bs : List Binding) (rising : AreRising bs) (n i : ℕ) where
  pub bound_found : (d : Binding) → IsPlace (λ b. nat_cmp b.number n) bs (Ok i) → bound_at n (frame_view bs) ≡ Some (bound_view (get_or bs i d))
  bound_found d place = lookup_at (λ b. b.number) nat_cmp_total bs (rising_by_key (λ b. b.number) nat_cmp bs rising) n (λ b. (b.number, bound_view b))
      (λ m. is_eq (nat_cmp n m)) (λ b. ap is_eq (nat_cmp_total.antisymm n b.number) ∙ ties_back _) i d place

  pub bound_missing : IsPlace (λ b. nat_cmp b.number n) bs (Err i) → bound_at n (frame_view bs) ≡ None
  bound_missing place = lookup_between (λ b. b.number) nat_cmp_total bs (rising_by_key (λ b. b.number) nat_cmp bs rising) n (λ b. (b.number, bound_view b))
      (λ m. is_eq (nat_cmp n m)) (λ b. ap is_eq (nat_cmp_total.antisymm n b.number) ∙ ties_back _) i place

-- a number less than the first is not bound
pub past_first : (bs : List Binding) → AreRising bs → (n : ℕ) (first : Binding) → ((d : Binding) → first ≡ get_or bs 0 d)
    → is_lt (nat_cmp n first.number) ≡ true → bound_at n (frame_view bs) ≡ None
past_first bs rising n first is lt = bound_missing bs rising n 0 (at_start (λ b. b.number) nat_cmp_total bs (rising_by_key (λ b. b.number) nat_cmp bs rising) n
    (λ d. ap (λ (b : Binding). nat_cmp n b.number) (sym (is d)) ∙ less _ lt))

module _ (bs : List Binding) (rising : AreRising bs) (b : Binding) (i : ℕ) where
  pub bound_over : IsPlace (λ x. nat_cmp x.number b.number) bs (Ok i) → frame_view (set bs i b) ≡ with_bound (frame_view bs) (bound_view b)
  bound_over place =
      set_at (λ x. x.number) bound_view b bs i place.0 (below_place (λ x. x.number) nat_cmp_total bs (rising_by_key (λ x. x.number) nat_cmp bs rising) b.number
      i place.0 place.1) place.1

  pub rising_over : IsPlace (λ x. nat_cmp x.number b.number) bs (Ok i) → AreRising (set bs i b)
  rising_over place =
      subst (IsStrictlySortedBy nat_cmp)
      (sym (map-set_same (λ (x : Binding). x.number) bs i b b (sym (ranked (get_or bs i b).number b.number _ (sym (place.1 b)))))) rising

  pub bound_between : IsPlace (λ x. nat_cmp x.number b.number) bs (Err i) → frame_view (insert bs i b) ≡ with_bound (frame_view bs) (bound_view b)
  bound_between place = insert_at (λ x. x.number) bound_view b bs i place.0 place.1.0 place.1.1

  pub rising_between : IsPlace (λ x. nat_cmp x.number b.number) bs (Err i) → AreRising (insert bs i b)
  rising_between place = rising_inserted (λ x. x.number) b bs i place.0 place.1.0 place.1.1 rising
