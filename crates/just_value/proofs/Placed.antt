-- Bindings at the indices of their numbers, as a frame.
use Rattle.std.proofs.Common.{◌≡◌, ◌≢◌, ◌≤◌, ◌<◌, ◌+◌, drop, get_or, take, ℕ, zero, suc, Bool, true, false, cond, List, []}
use Rattle.std.proofs.Common.{◌∷◌, ◌++◌, length, map, set, Option, Some, None, Result, Ok, Err, OnOk, OnErr, refl, ap, sym, ◌∙◌, arith}
use Rattle.std.proofs.Common.{Ordering, Less, Equal, Greater, nat_cmp, is_eq, option_map, slice_get, subst, ◌⊎◌, inl, inr}
use Rattle.std.specs.Borrow.{Bor}
use Rattle.std.specs.Slice.{IsItemAt}
use Rattle.std.specs.List.{AllByRecursion}
use Rattle.std.specs.List.Sorted.{IsStrictlySortedBy}
use Rattle.std.specs.Map.{keys_of, lookup, values_of}
use Rattle.std.specs.Ordering.{match_ordering}
use Rattle.std.specs.BTreeMap.{insert_entry, is_at}
use Rattle.std.proofs.lemmas.Cmp.{ranked}
use Rattle.std.proofs.lemmas.List.{at_drop_more, length-take, take-append-drop, take_more}
use Rattle.std.proofs.lemmas.Map.Keys.{sorted_head, sorted_tail}
use Rattle.std.proofs.lemmas.Option.{slice_get-get_or, slice_get_past, slice_get_within}
use Rattle.just_value.specs.declared.binding.Binding.{Binding}
use Rattle.just_value.specs.Placed.{AreRisingOrPlaced, IsPlaced, before_others, items_in_order}
use Rattle.just_value.specs.Prelude.{AreRising, ArePlaced, Bound, IsPlace, ShowsFrame, bound_at, bound_view, elements_at, frame_view, with_bound}
use Rattle.just_value.proofs.Bound.{number_at}
use Rattle.just_value.proofs.Framed.{bound_found, nothing_rises}
use Rattle.just_value.proofs.Inserted.{all_above, turned}

abbrev Indices : Type 0
Indices = List (ℕ × ℕ)

abbrev number_of_binding : Option Binding → Option ℕ
number_of_binding bound = option_map (λ b. b.number) bound

abbrev AllPlaced : List Binding → Indices → Type 0
AllPlaced bs es = AllByRecursion (IsPlaced bs) es

abbrev seen_frame : List Binding → Indices → List (ℕ × Bound)
seen_frame bs es = frame_view (elements_at bs (values_of es))

-- the binding at an index, if there is one
abbrev pub shown_at : List Binding → Option ℕ → Option Bound
shown_at bs None = None
shown_at bs (Some i) = option_map bound_view (slice_get bs i)

-- the numbers of the bindings are those of the indices
number_first : (o : Option Binding) (n : ℕ) (xs : List Binding) (ks : List ℕ) → number_of_binding o ≡ Some n → map (λ b. b.number) xs ≡ ks
    → map (λ b. b.number) (before_others o xs) ≡ n ∷ ks
number_first None n xs ks is rest = cc
number_first (Some b) n xs ks is rest = cc

pub numbers_seen : (bs : List Binding) (es : Indices) → AllPlaced bs es → map (λ b. b.number) (elements_at bs (values_of es)) ≡ keys_of es
numbers_seen bs [] h = refl
numbers_seen bs (e ∷ es) h = number_first (slice_get bs e.1) e.0 _ _ h.0 (numbers_seen bs es h.1)

-- a look-up finds the binding at the number's index
found_first : (bs : List Binding) (t : Bool) (b : Binding) (i : ℕ) (l : Option Bound) (r : Option ℕ) → slice_get bs i ≡ Some b → l ≡ shown_at bs r
    → cond t (Some (bound_view b)) l ≡ shown_at bs (cond t (Some i) r)
found_first bs true b i l r is rest = sym (ap (option_map bound_view) is)
found_first bs false b i l r is rest = rest

module _ (n : ℕ) (bs : List Binding) where
  look_up_first : (o : Option Binding) (e : ℕ × ℕ) (es : Indices) → slice_get bs e.1 ≡ o → number_of_binding o ≡ Some e.0
      → bound_at n (seen_frame bs es) ≡ shown_at bs (lookup (is_at (nat_cmp n)) es)
      → bound_at n (frame_view (before_others o (elements_at bs (values_of es)))) ≡ shown_at bs (lookup (is_at (nat_cmp n)) (e ∷ es))
  look_up_first None e es is number rest = cc
  look_up_first (Some b) e es is number rest =
      let same : b.number ≡ e.0 = cc in
      ap (λ k. cond (is_at (nat_cmp n) k) (Some (bound_view b)) (bound_at n (seen_frame bs es))) same
      ∙ found_first bs (is_at (nat_cmp n) e.0) b e.1 _ _ is rest

  pub look_up : (es : Indices) → AllPlaced bs es → bound_at n (seen_frame bs es) ≡ shown_at bs (lookup (is_at (nat_cmp n)) es)
  look_up [] h = refl
  look_up (e ∷ es) h = look_up_first (slice_get bs e.1) e es refl h.0 (look_up es h.1)

  -- the binding at a number's index has that number
  placed_first : (t : Bool) (e : ℕ × ℕ) (es : Indices) (i : ℕ) → t ≡ is_at (nat_cmp n) e.0 → IsPlaced bs e
      → (lookup (is_at (nat_cmp n)) es ≡ Some i → number_of_binding (slice_get bs i) ≡ Some n)
      → cond t (Some e.1) (lookup (is_at (nat_cmp n)) es) ≡ Some i → number_of_binding (slice_get bs i) ≡ Some n
  placed_first true e es i at placed rest is = let same = number_at n e.0 (sym at) in cc
  placed_first false e es i at placed rest is = rest is

  pub placed_at : (es : Indices) (i : ℕ) → AllPlaced bs es → lookup (is_at (nat_cmp n)) es ≡ Some i → number_of_binding (slice_get bs i) ≡ Some n
  placed_at [] i h is = cc
  placed_at (e ∷ es) i h is = placed_first (is_at (nat_cmp n) e.0) e es i refl h.0 (placed_at es i h.1) is

-- a binding whose number takes an index
module _ (bs : List Binding) (b : Binding) (i : ℕ) (is : slice_get bs i ≡ Some b) where
  placed_step : (o : Ordering) (e : ℕ × ℕ) (es more : Indices) → o ≡ nat_cmp b.number e.0 → IsPlaced bs e → AllPlaced bs es → AllPlaced bs more
      → AllPlaced bs (match_ordering o ((b.number, i) ∷ e ∷ es) ((e.0, i) ∷ es) (e ∷ more))
  placed_step Less e es more at here h rest = (ap number_of_binding is, (here, h))
  placed_step Equal e es more at here h rest = (ap number_of_binding is ∙ ap Some (ranked b.number e.0 Equal at), h)
  placed_step Greater e es more at here h rest = (here, rest)

  pub placed_inserted : (es : Indices) → AllPlaced bs es → AllPlaced bs (insert_entry nat_cmp es b.number i)
  placed_inserted [] h = (ap number_of_binding is, tt)
  placed_inserted (e ∷ es) h = placed_step (nat_cmp b.number e.0) e es _ refl h.0 h.1 (placed_inserted es h.1)

  seen_step : (o : Ordering) (x : Binding) (e : ℕ × ℕ) (es more : Indices) → o ≡ nat_cmp b.number e.0 → slice_get bs e.1 ≡ Some x → x.number ≡ e.0
      → seen_frame bs more ≡ with_bound (seen_frame bs es) (bound_view b)
      → seen_frame bs (match_ordering o ((b.number, i) ∷ e ∷ es) ((e.0, i) ∷ es) (e ∷ more))
      ≡ match_ordering o ((b.number, bound_view b) ∷ (x.number, bound_view x) ∷ seen_frame bs es) ((x.number, bound_view b) ∷ seen_frame bs es)
      ((x.number, bound_view x) ∷ with_bound (seen_frame bs es) (bound_view b))
  seen_step Less x e es more at there same rest = rw (is, there) refl
  seen_step Equal x e es more at there same rest =
      let number : b.number ≡ x.number = ranked b.number e.0 Equal at ∙ sym same in
      rw is (ap (λ (n : ℕ). (n, bound_view b) ∷ seen_frame bs es) number)
  seen_step Greater x e es more at there same rest = rw there (ap (λ f. (x.number, bound_view x) ∷ f) rest)

  seen_first : (o : Option Binding) (e : ℕ × ℕ) (es : Indices) → slice_get bs e.1 ≡ o → number_of_binding o ≡ Some e.0
      → seen_frame bs (insert_entry nat_cmp es b.number i) ≡ with_bound (seen_frame bs es) (bound_view b)
      → seen_frame bs (insert_entry nat_cmp (e ∷ es) b.number i) ≡ with_bound (frame_view (before_others o (elements_at bs (values_of es)))) (bound_view b)
  seen_first None e es there number rest = cc
  seen_first (Some x) e es there number rest =
      let same : x.number ≡ e.0 = cc in
      seen_step (nat_cmp b.number e.0) x e es _ refl there same rest
      ∙ ap (λ n. match_ordering (nat_cmp b.number n) ((b.number, bound_view b) ∷ (x.number, bound_view x) ∷ seen_frame bs es)
      ((x.number, bound_view b) ∷ seen_frame bs es)
      ((x.number, bound_view x) ∷ with_bound (seen_frame bs es) (bound_view b))) (sym same)

  pub seen_inserted : (es : Indices) → AllPlaced bs es → seen_frame bs (insert_entry nat_cmp es b.number i) ≡ with_bound (seen_frame bs es) (bound_view b)
  seen_inserted [] h = rw is refl
  seen_inserted (e ∷ es) h = seen_first (slice_get bs e.1) e es refl h.0 (seen_inserted es h.1)

-- bindings that are added at the end
got_more : {X : Type 0} (xs ys : List X) (i : ℕ) (x : X) → slice_get xs i ≡ Some x → slice_get (xs ++ ys) i ≡ Some x
got_more [] ys i x is = cc
got_more (y ∷ xs) ys zero x is = is
got_more (y ∷ xs) ys (suc i) x is = got_more xs ys i x is

pub got_last : {X : Type 0} (xs : List X) (x : X) → slice_get (xs ++ x ∷ []) (length xs) ≡ Some x
got_last [] x = refl
got_last (y ∷ xs) x = got_last xs x

module _ (bs more : List Binding) where
  got_same : (o : Option Binding) (i n : ℕ) → slice_get bs i ≡ o → number_of_binding o ≡ Some n → slice_get (bs ++ more) i ≡ slice_get bs i
  got_same None i n is number = cc
  got_same (Some b) i n is number = got_more bs more i b is ∙ sym is

  pub placed_more : (es : Indices) → AllPlaced bs es → AllPlaced (bs ++ more) es
  placed_more [] h = tt
  placed_more (e ∷ es) h = (ap number_of_binding (got_same (slice_get bs e.1) e.1 e.0 refl h.0) ∙ h.0, placed_more es h.1)

  pub elements_more : (es : Indices) → AllPlaced bs es → elements_at (bs ++ more) (values_of es) ≡ elements_at bs (values_of es)
  elements_more [] h = refl
  elements_more (e ∷ es) h = rw (got_same (slice_get bs e.1) e.1 e.0 refl h.0, elements_more es h.1) refl

-- a binding in place of one of the same number
got_set : {X : Type 0} (xs : List X) (i : ℕ) (x y : X) → slice_get xs i ≡ Some x → slice_get (set xs i y) i ≡ Some y
got_set [] i x y is = cc
got_set (z ∷ xs) zero x y is = refl
got_set (z ∷ xs) (suc i) x y is = got_set xs i x y is

got_other : {X : Type 0} (xs : List X) (i j : ℕ) (y : X) → i ≢ j → slice_get (set xs i y) j ≡ slice_get xs j
got_other [] i j y apart = refl
got_other (z ∷ xs) zero zero y apart = absurd (apart refl)
got_other (z ∷ xs) zero (suc j) y apart = refl
got_other (z ∷ xs) (suc i) zero y apart = refl
got_other (z ∷ xs) (suc i) (suc j) y apart = got_other xs i j y (λ e. apart (ap suc e))

module _ (bs : List Binding) (b : Binding) (i : ℕ) (is : number_of_binding (slice_get bs i) ≡ Some b.number) where
  got_new : (o : Option Binding) → slice_get bs i ≡ o → number_of_binding o ≡ Some b.number → slice_get (set bs i b) i ≡ Some b
  got_new None at number = cc
  got_new (Some x) at number = got_set bs i x b at

  -- the binding of another number stays
  stays : (e : ℕ × ℕ) → IsPlaced bs e → e.0 ≢ b.number → slice_get (set bs i b) e.1 ≡ slice_get bs e.1
  stays e here apart = got_other bs i e.1 b (λ same. let number = ap (λ j. number_of_binding (slice_get bs j)) same in apart cc)

  greater : (e : ℕ × ℕ) → nat_cmp b.number e.0 ≡ Less → e.0 ≢ b.number
  greater e less same = let below = ranked b.number e.0 Less (sym less) in absurd (omega (arith, below, same))

  rest_stays : (es : Indices) → AllPlaced bs es → AllByRecursion (λ n. nat_cmp b.number n ≡ Less) (keys_of es)
      → elements_at (set bs i b) (values_of es) ≡ elements_at bs (values_of es)
  rest_stays [] h above = refl
  rest_stays (e ∷ es) h above = rw (stays e h.0 (greater e above.0), rest_stays es h.1 above.1) refl

  missed : (es : Indices) → AllByRecursion (λ n. nat_cmp b.number n ≡ Less) (keys_of es) → lookup (is_at (nat_cmp b.number)) es ≡ None
  missed [] above = refl
  missed (e ∷ es) above = rw above.0 (missed es above.1)

  set_step : (o : Ordering) (x : Binding) (e : ℕ × ℕ) (es : Indices) → o ≡ nat_cmp b.number e.0 → slice_get bs e.1 ≡ Some x → x.number ≡ e.0
      → AllPlaced bs es → AllByRecursion (λ n. nat_cmp e.0 n ≡ Less) (keys_of es)
      → (lookup (is_at (nat_cmp b.number)) es ≡ Some i → seen_frame (set bs i b) es ≡ with_bound (seen_frame bs es) (bound_view b))
      → cond (is_eq o) (Some e.1) (lookup (is_at (nat_cmp b.number)) es) ≡ Some i
      → seen_frame (set bs i b) (e ∷ es)
      ≡ match_ordering o ((b.number, bound_view b) ∷ (x.number, bound_view x) ∷ seen_frame bs es) ((x.number, bound_view b) ∷ seen_frame bs es)
      ((x.number, bound_view x) ∷ with_bound (seen_frame bs es) (bound_view b))
  set_step Less x e es at there same h above rest found = let none = missed es (all_above b.number e.0 (keys_of es) (sym at) above) in cc
  set_step Equal x e es at there same h above rest found =
      let number : b.number ≡ e.0 = ranked b.number e.0 Equal at in
      let here : e.1 ≡ i = cc in
      let new : slice_get (set bs i b) e.1 ≡ Some b = ap (λ j. slice_get (set bs i b) j) here ∙ got_new (slice_get bs i) refl is in
      let others = rest_stays es h (subst (λ k. AllByRecursion (λ n. nat_cmp k n ≡ Less) (keys_of es)) (sym number) above) in
      rw (new, others) (ap (λ (n : ℕ). (n, bound_view b) ∷ seen_frame bs es) (number ∙ sym same))
  set_step Greater x e es at there same h above rest found =
      let below = ranked b.number e.0 Greater at in
      let apart : e.0 ≢ b.number = λ equal. absurd (omega (arith, below, equal)) in
      rw (stays e (ap number_of_binding there ∙ ap Some same) apart, there) (ap (λ f. (x.number, bound_view x) ∷ f) (rest found))

  set_first : (o : Option Binding) (e : ℕ × ℕ) (es : Indices) → slice_get bs e.1 ≡ o → number_of_binding o ≡ Some e.0
      → AllPlaced bs es → AllByRecursion (λ n. nat_cmp e.0 n ≡ Less) (keys_of es)
      → (lookup (is_at (nat_cmp b.number)) es ≡ Some i → seen_frame (set bs i b) es ≡ with_bound (seen_frame bs es) (bound_view b))
      → lookup (is_at (nat_cmp b.number)) (e ∷ es) ≡ Some i
      → seen_frame (set bs i b) (e ∷ es) ≡ with_bound (frame_view (before_others o (elements_at bs (values_of es)))) (bound_view b)
  set_first None e es there number h above rest found = cc
  set_first (Some x) e es there number h above rest found =
      let same : x.number ≡ e.0 = cc in
      set_step (nat_cmp b.number e.0) x e es refl there same h above rest found
      ∙ ap (λ n. match_ordering (nat_cmp b.number n) ((b.number, bound_view b) ∷ (x.number, bound_view x) ∷ seen_frame bs es)
      ((x.number, bound_view b) ∷ seen_frame bs es)
      ((x.number, bound_view x) ∷ with_bound (seen_frame bs es) (bound_view b))) (sym same)

  seen_set : (es : Indices) → IsStrictlySortedBy nat_cmp (keys_of es) → AllPlaced bs es → lookup (is_at (nat_cmp b.number)) es ≡ Some i
      → seen_frame (set bs i b) es ≡ with_bound (seen_frame bs es) (bound_view b)
  seen_set [] sorted h found = cc
  seen_set (e ∷ es) sorted h found =
      set_first (slice_get bs e.1) e es refl h.0 h.1 (sorted_head nat_cmp e.0 (keys_of es) sorted)
      (seen_set es (sorted_tail nat_cmp e.0 (keys_of es) sorted) h.1) found

number_set : (xs : List Binding) (b : Binding) (i j : ℕ) → number_of_binding (slice_get xs i) ≡ Some b.number
    → number_of_binding (slice_get (set xs i b) j) ≡ number_of_binding (slice_get xs j)
number_set [] b i j is = refl
number_set (z ∷ xs) b zero zero is = sym is
number_set (z ∷ xs) b zero (suc j) is = refl
number_set (z ∷ xs) b (suc i) zero is = refl
number_set (z ∷ xs) b (suc i) (suc j) is = number_set xs b i j is

placed_set : (bs : List Binding) (b : Binding) (i : ℕ) (es : Indices) → number_of_binding (slice_get bs i) ≡ Some b.number → AllPlaced bs es
    → AllPlaced (set bs i b) es
placed_set bs b i [] is h = tt
placed_set bs b i (e ∷ es) is h = (number_set bs b i e.1 is ∙ h.0, placed_set bs b i es is h.1)

-- what a frame shows after a binding
pub shows_set : (f : List (ℕ × Bound)) (bs : List Binding) (b : Binding) (i : ℕ) (es : Indices) → ShowsFrame f bs es
    → lookup (is_at (nat_cmp b.number)) es ≡ Some i → ShowsFrame (with_bound f (bound_view b)) (set bs i b) es
shows_set f bs b i es ((sorted, placed), shows) found =
    let is = placed_at b.number bs es i placed found in
    ((sorted, placed_set bs b i es is placed), seen_set bs b i is es sorted placed found ∙ ap (λ f. with_bound f (bound_view b)) shows)

pub shows_inserted : (f : List (ℕ × Bound)) (bs : List Binding) (b : Binding) (i : ℕ) (es more : Indices) → ShowsFrame f bs es → slice_get bs i ≡ Some b
    → more ≡ insert_entry nat_cmp es b.number i → IsStrictlySortedBy nat_cmp (keys_of more) → ShowsFrame (with_bound f (bound_view b)) bs more
shows_inserted f bs b i es more ((sorted, placed), shows) is inserted rising = (
  (rising, subst (AllPlaced bs) (sym inserted) (placed_inserted bs b i is es placed)),
  ap (seen_frame bs) inserted ∙ seen_inserted bs b i is es placed ∙ ap (λ f. with_bound f (bound_view b)) shows,
)

pub shows_more : (f : List (ℕ × Bound)) (bs more : List Binding) (es : Indices) → ShowsFrame f bs es → ShowsFrame f (bs ++ more) es
shows_more f bs more es ((sorted, placed), shows) = ((sorted, placed_more bs more es placed), ap frame_view (elements_more bs more es placed) ∙ shows)

pub shows_rising : (bs : List Binding) (es : Indices) → ArePlaced bs es → AreRising (elements_at bs (values_of es))
shows_rising bs es (sorted, placed) = subst (IsStrictlySortedBy nat_cmp) (sym (numbers_seen bs es placed)) sorted

-- bindings in ascending order, placed one by one
last_of_all : (P : ℕ → Type 0) (xs : List Binding) (b : Binding) (ys : List Binding) → AllByRecursion P (map (λ x. x.number) (xs ++ b ∷ ys)) → P b.number
last_of_all P [] b ys h = h.0
last_of_all P (x ∷ xs) b ys h = last_of_all P xs b ys h.1

pub bound_last : (xs : List Binding) (b : Binding) (ys : List Binding) → AreRising (xs ++ b ∷ ys)
    → with_bound (frame_view xs) (bound_view b) ≡ frame_view (xs ++ b ∷ [])
unfolding IsStrictlySortedBy
bound_last [] b ys h = refl
bound_last (x ∷ xs) b ys h =
    let after = turned x.number b.number Less (last_of_all (λ n. nat_cmp x.number n ≡ Less) xs b ys h.0) in
    rw after (ap (λ f. (x.number, bound_view x) ∷ f) (bound_last xs b ys h.1))

-- the binding that is lent from an index
pub lent : (bs : List Binding) (i : ℕ) (r : Option (Bor Binding)) → IsItemAt bs i r
    → option_map (λ b. bound_view b.now) r ≡ option_map bound_view (slice_get bs i)
lent bs i None item = sym (ap (option_map bound_view) (slice_get_past bs i item.3))
lent bs i (Some b) item = sym (ap (option_map bound_view) (slice_get-get_or bs i b.now item.3.0 ∙ ap Some (sym (item.3.1 b.now))))

-- the binding at a place
pub found_there : (bs : List Binding) → AreRising bs → (n i : ℕ) → IsPlace (λ b. nat_cmp b.number n) bs (Ok i)
    → bound_at n (frame_view bs) ≡ option_map bound_view (slice_get bs i)
found_there [] rising n i place = absurd (omega (arith, place.0))
found_there (b ∷ bs) rising n i place =
    bound_found (b ∷ bs) rising n i b place ∙ sym (ap (option_map bound_view) (slice_get-get_or (b ∷ bs) i b place.0))

-- the index of a number is not past the end
pub never_past : (f : List (ℕ × Bound)) (bs : List Binding) (n i : ℕ) (es : Indices) → ShowsFrame f bs es → lookup (is_at (nat_cmp n)) es ≡ Some i
    → length bs ≤ i → ⊥
never_past f bs n i es ((sorted, placed), shows) found past =
    let none : slice_get bs i ≡ None = slice_get_past bs i past in
    let some = placed_at n bs es i placed found in
    cc

-- a frame's bindings are in ascending order
pub rising_in_order : (bs : List Binding) (es : Indices) → AreRisingOrPlaced bs es → AreRising (items_in_order bs es)
rising_in_order bs [] h = h
rising_in_order bs (e ∷ es) h = shows_rising bs (e ∷ es) h

-- a frame without places, and with some
pub none_placed : (bs : List Binding) (es : Indices) → es ≡ [] → AreRisingOrPlaced bs es → AreRising bs
none_placed bs es none h = subst (AreRisingOrPlaced bs) none h

pub all_placed : (bs : List Binding) (es : Indices) → (es ≡ [] → ⊥) → AreRisingOrPlaced bs es → ArePlaced bs es
all_placed bs [] some h = absurd (some refl)
all_placed bs (e ∷ es) some h = h

pub elements_in_order : (bs : List Binding) (es : Indices) → (es ≡ [] → ⊥) → items_in_order bs es ≡ elements_at bs (values_of es)
elements_in_order bs [] some = absurd (some refl)
elements_in_order bs (e ∷ es) some = refl

-- each index is that of a binding
within_first : (bs : List Binding) (i n : ℕ) (o : Option Binding) → slice_get bs i ≡ o → number_of_binding o ≡ Some n → i < length bs
within_first bs i n None is number = absurd (cc)
within_first bs i n (Some b) is number = slice_get_within bs i b is

pub within : (bs : List Binding) (es : Indices) → AllPlaced bs es → AllByRecursion (λ i. i < length bs) (values_of es)
within bs [] h = tt
within bs (e ∷ es) h = (within_first bs e.1 e.0 (slice_get bs e.1) refl h.0, within bs es h.1)

-- bindings in ascending order, placed one by one
got_next : {X : Type 0} (xs : List X) (x : X) (ys : List X) → slice_get (xs ++ x ∷ ys) (length xs) ≡ Some x
got_next [] x ys = refl
got_next (y ∷ xs) x ys = got_next xs x ys

pub shows_next : (placed : List Binding) (b : Binding) (rest bs : List Binding) (i : ℕ) (es more : Indices) → placed ++ b ∷ rest ≡ bs → i ≡ length placed
    → AreRising bs → ShowsFrame (frame_view placed) bs es → more ≡ insert_entry nat_cmp es b.number i → IsStrictlySortedBy nat_cmp (keys_of more)
    → ShowsFrame (frame_view (placed ++ b ∷ [])) bs more
shows_next placed b rest bs i es more parts at rising shows inserted sorted =
    let here : slice_get bs i ≡ Some b = rw (← parts, at) (got_next placed b rest) in
    rw (← bound_last placed b rest (subst AreRising (sym parts) rising))
    (shows_inserted (frame_view placed) bs b i es more shows here inserted sorted)

pub shows_nothing : (bs : List Binding) (es : Indices) → es ≡ [] → ShowsFrame [] bs es
shows_nothing bs es none = rw none ((nothing_rises, tt), refl)

-- what a look-up by place comes to
pub shown_by_place : (f : List (ℕ × Bound)) (bs : List Binding) (n : ℕ) (es : Indices) (o : Option ℕ) → ShowsFrame f bs es
    → o ≡ lookup (is_at (nat_cmp n)) es → shown_at bs o ≡ bound_at n f
shown_by_place f bs n es o ((sorted, placed), shows) found = ap (shown_at bs) found ∙ sym (look_up n bs es placed) ∙ ap (bound_at n) shows

pub shows_at : (bs : List Binding) (b : Binding) (i : ℕ) (es more : Indices) → i < length bs → b ≡ get_or bs i b → AreRising bs
    → ShowsFrame (frame_view (take i bs)) bs es → more ≡ insert_entry nat_cmp es b.number i → IsStrictlySortedBy nat_cmp (keys_of more)
    → ShowsFrame (frame_view (take (i + 1) bs)) bs more
shows_at bs b i es more within is rising shows inserted sorted =
    let front : take (i + 1) bs ≡ take i bs ++ b ∷ [] = take_more bs i b within ∙ ap (λ x. take i bs ++ x ∷ []) (sym is) in
    let parts : take i bs ++ b ∷ drop (i + 1) bs ≡ bs =
    sym (at_drop_more (λ l. take i bs ++ l) bs i b within ∙ ap (λ x. take i bs ++ x ∷ drop (i + 1) bs) (sym is)) ∙ take-append-drop i bs in
    rw front (shows_next (take i bs) b (drop (i + 1) bs) bs i es more parts (omega (arith, length-take i bs)) rising shows inserted sorted)

pub on_ok_map : {T E : Type 0} {P Q : Type 0} (r : Result T E) → (P → Q) → OnOk r P → OnOk r Q
on_ok_map (Ok x) f p = f p
on_ok_map (Err x) f p = tt

pub on_err_map : {T E : Type 0} {P Q : Type 0} (r : Result T E) → (P → Q) → OnErr r P → OnErr r Q
on_err_map (Ok x) f p = tt
on_err_map (Err x) f p = f p

-- a frame with a binding is not empty
never_nothing : (f : List (ℕ × Bound)) (b : Bound) → [] ≡ with_bound f b → ⊥
never_nothing [] b same = cc
never_nothing (e ∷ f) b same = something (nat_cmp b.number e.0) _ _ _ _ _ _ same where
  something : (o : Ordering) (x y z : ℕ × Bound) (xs ys zs : List (ℕ × Bound)) → [] ≡ match_ordering o (x ∷ xs) (y ∷ ys) (z ∷ zs) → ⊥
  something Less x y z xs ys zs same = cc
  something Equal x y z xs ys zs same = cc
  something Greater x y z xs ys zs same = cc

-- bindings and places that show a frame with a binding are that frame
pub in_order_bound : (f : List (ℕ × Bound)) (bs : List Binding) (es : Indices) (b : Bound) → ShowsFrame (with_bound f b) bs es
    → AreRisingOrPlaced bs es × (frame_view (items_in_order bs es) ≡ with_bound f b)
in_order_bound f bs [] b (placed, shows) = absurd (never_nothing f b shows)
in_order_bound f bs (e ∷ es) b (placed, shows) = (placed, shows)

-- a frame with places shows itself
pub shows_itself : (bs : List Binding) (es : Indices) → (es ≡ [] → ⊥) → AreRisingOrPlaced bs es → ShowsFrame (frame_view (items_in_order bs es)) bs es
shows_itself bs [] some h = absurd (some refl)
shows_itself bs (e ∷ es) some h = (h, refl)

-- bindings in ascending order are a frame without places, and with those of all
pub in_order_anyway : (bs : List Binding) (es : Indices) → AreRising bs → (es ≡ []) ⊎ ShowsFrame (frame_view bs) bs es
    → AreRisingOrPlaced bs es × (frame_view (items_in_order bs es) ≡ frame_view bs)
in_order_anyway bs [] rising h = (rising, refl)
in_order_anyway bs (e ∷ es) rising (inl none) = cc
in_order_anyway bs (e ∷ es) rising (inr (placed, shows)) = (placed, shows)

-- a frame with places after a binding, or without memory for it
pub in_order_after : {T E : Type 0} (r : Result T E) (bs : List Binding) (es : Indices) (after : List Binding) (more : Indices) (b : Binding)
    → (es ≡ [] → ⊥) → AreRisingOrPlaced bs es → OnOk r ((f : List (ℕ × Bound)) → ShowsFrame f bs es → ShowsFrame (with_bound f (bound_view b)) after more)
    → OnErr r ((after ≡ bs) × (more ≡ es)) → AreRisingOrPlaced after more
in_order_after (Ok x) bs es after more b some h ok err =
    let f = frame_view (items_in_order bs es) in
    (in_order_bound f after more (bound_view b) (ok f (shows_itself bs es some h))).0
in_order_after (Err x) bs es after more b some h ok err = rw (err.0, err.1) h

-- a frame that gets its first places, or has no memory for them
pub in_order_first : {T E : Type 0} (r : Result T E) (bs : List Binding) (es : Indices) (after : List Binding) (more : Indices) (b : Binding)
    → es ≡ [] → AreRising bs → OnOk r (es ≡ [] → AreRising bs → ShowsFrame (with_bound (frame_view bs) (bound_view b)) after more)
    → OnErr r (es ≡ [] → AreRising bs → (after ≡ bs) × ((more ≡ []) ⊎ ShowsFrame (frame_view bs) bs more)) → AreRisingOrPlaced after more
in_order_first (Ok x) bs es after more b none rising ok err = (in_order_bound (frame_view bs) after more (bound_view b) (ok none rising)).0
in_order_first (Err x) bs es after more b none rising ok err =
    let same = err none rising in
    rw same.0 (in_order_anyway bs more rising same.1).0

pub shows_first : {T E : Type 0} (r : Result T E) (bs : List Binding) (es : Indices) (after : List Binding) (more : Indices) (b : Binding)
    → es ≡ [] → AreRising bs → OnOk r (es ≡ [] → AreRising bs → ShowsFrame (with_bound (frame_view bs) (bound_view b)) after more)
    → OnOk r (frame_view (items_in_order after more) ≡ with_bound (frame_view bs) (bound_view b))
shows_first (Ok x) bs es after more b none rising ok = (in_order_bound (frame_view bs) after more (bound_view b) (ok none rising)).1
shows_first (Err x) bs es after more b none rising ok = tt

-- elements at some indices are no more than the indices
some_first : {X : Type 0} (o : Option X) (xs : List X) (n : ℕ) → length xs ≤ n → length (before_others o xs) ≤ n + 1
some_first None xs n most = omega arith
some_first (Some x) xs n most = omega (arith, most)

pub no_more_elements : {X : Type 0} (xs : List X) (indices : List ℕ) → length (elements_at xs indices) ≤ length indices
no_more_elements xs [] = omega arith
no_more_elements xs (i ∷ indices) =
    let most = some_first (slice_get xs i) (elements_at xs indices) (length indices) (no_more_elements xs indices) in
    omega (arith, most)
