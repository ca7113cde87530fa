-- What an order takes, one name after another.
use Rattle.std.proofs.Common.{◌≡◌, ◌↔◌, ◌⊎◌, inl, inr, ⊎_elim, ℕ, Bool, true, false, cond, List, [], ◌∷◌, map, Option, Some, None, is_some, Bor, refl, ap, sym}
use Rattle.std.proofs.Common.{◌∙◌, subst, IsTrue, IfOk, Result, Ok, Err, MatchOption, option_map, drop, get_or, length, ◌+◌, ◌<◌}
use Rattle.std.proofs.lemmas.Bool.{or_cases, or_left, or_right}
use Rattle.just_resolution.specs.Prelude.{AreDistinct, Assignment, Assignments, Expr, Finds, FindsMisplaced, Frames, Function, HasValue, IsAdmitted, IsAmong}
use Rattle.just_resolution.specs.Prelude.{IsFaulty, IsIn, IsMisplaced, IsNumberOf, IsSound, IsTakenBy, IsUnreadable, MayComeNext, ModuleFault, NameOf}
use Rattle.just_resolution.specs.Prelude.{ReadsReadable, ReadsUntaken, Text, Token, Value, assignment_at, frames_view, is_number_taken, is_readable}
use Rattle.just_resolution.specs.Prelude.{name_places, name_view, occurrences_in, value_at, value_in, with_taken}
use Rattle.just_value.specs.declared.scope.Scope.{Scope}
use Rattle.just_resolution.specs.Fault.{IsTakenOrBound}
use Rattle.just_resolution.specs.Unreadable.{IsUnreadableBeyond}
use Rattle.just_meaning.specs.Reaches.{Reads}
use Rattle.just_resolution.specs.declared.readable.Readable.{Readable}
use Rattle.just_syntax.specs.declared.name.Name.{Name}
use Rattle.just_syntax.proofs.Tables.{found_is}
use Rattle.just_resolution.proofs.Finding.{Leads, leads_off, leads_on}
use Rattle.just_resolution.proofs.Occurrences.{unreadable_alike}
use Rattle.just_resolution.proofs.Sets.{front_at, no_member}

-- ---- numbers that are distinct

-- what is found in a table occurs there
found_in : (name : Text) (vs : List Assignment) (a : Assignment) → value_at (λ v. v.name.lexeme) name vs ≡ Some a → IsIn vs a
found_in name vs a found = found_is (λ v. v.name.lexeme) name (λ xs. (b : Assignment) → IsIn xs b → IsIn vs b) (IsIn vs) (λ v xs h. h v (inl refl))
    (λ v xs h b later. h b (inr later)) vs a (λ b h. h) found

number_in : (vs : List Assignment) (a : Assignment) → IsIn vs a → IsIn (map (λ v. v.number) vs) a.number
number_in [] a h = absurd h
number_in (v ∷ vs) a (inl same) = inl (ap (λ (w : Assignment). w.number) same)
number_in (v ∷ vs) a (inr later) = inr (number_in vs a later)

-- two assignments with one number are the same
one_assignment : (vs : List Assignment) → AreDistinct (map (λ v. v.number) vs) → (a b : Assignment) → IsIn vs a → IsIn vs b → a.number ≡ b.number → a ≡ b
one_assignment [] distinct a b h k same = absurd h
one_assignment (v ∷ vs) distinct a b (inl h) (inl k) same = sym h ∙ k
one_assignment (v ∷ vs) distinct a b (inl h) (inr k) same =
    absurd (distinct.0 (subst (IsIn (map (λ v. v.number) vs)) (sym (ap (λ (w : Assignment). w.number) h ∙ same)) (number_in vs b k)))
one_assignment (v ∷ vs) distinct a b (inr h) (inl k) same =
    absurd (distinct.0 (subst (IsIn (map (λ v. v.number) vs)) (same ∙ ap (λ (w : Assignment). w.number) (sym k)) (number_in vs a h)))
one_assignment (v ∷ vs) distinct a b (inr h) (inr k) same = one_assignment vs distinct.1 a b h k same

-- ---- what is readable

pub bound_if : (o : Option Value) → (is_some o ≡ true) ↔ ((v : Value) × (o ≡ Some v))
bound_if None = ((λ h. absurd (let e : false ≡ true = h in cc)), (λ h. absurd (let e : None ≡ Some h.0 = h.1 in cc)))
bound_if (Some v) = ((λ h. (v, refl)), (λ h. refl))

-- what is taken or bound outside
pub readable_if : (r : Readable) (outer : Frames) → frames_view r.outer.now ≡ outer → (n : ℕ) → IsTrue (is_readable r n)
    ↔ (IsTrue (is_number_taken r n) ⊎ HasValue (value_in outer) n)
readable_if r outer is n =
    let bound = bound_if (value_in (frames_view r.outer.now) n) in (
      (λ h. ⊎_elim (λ k. inl k) (λ k. inr (subst (λ frames. HasValue (value_in frames) n) is (bound.0 k)))
          (or_cases (is_number_taken r n) (is_some (value_in (frames_view r.outer.now) n)) h)),
      (λ h. ⊎_elim (λ k. or_left (is_number_taken r n) (is_some (value_in (frames_view r.outer.now) n)) k)
          (λ k. or_right (is_number_taken r n) (is_some (value_in (frames_view r.outer.now) n))
          (bound.1 (subst (λ frames. HasValue (value_in frames) n) (sym is) k)))
          h),
    )

-- if more is taken, more is readable
pub more_readable : (old new : Readable) → new.outer ≡ old.outer → ((n : ℕ) → IsTrue (is_number_taken old n) → IsTrue (is_number_taken new n)) → (n : ℕ)
    → IsTrue (is_readable old n) → IsTrue (is_readable new n)
more_readable old new same on n h =
    let was = readable_if old (frames_view old.outer.now) refl n in
    let now_if = readable_if new (frames_view old.outer.now) (ap (λ (o : Bor Scope). frames_view o.now) same) n in
    now_if.1 (⊎_elim (λ k. inl (on n k)) (λ k. inr k) (was.0 h))

-- no function is admitted
pub none_admitted : (functions : List Function) (readable : ℕ → Bool) (admitted : Text → Bool) → ((name : Text) → admitted name ≡ false)
    → IsAdmitted functions readable admitted
none_admitted functions readable admitted nothing = record {
  reads = λ name f h found n s. absurd (let e : false ≡ true = sym (nothing name) ∙ h in cc);
  calls = λ name f h found further n s. absurd (let e : false ≡ true = sym (nothing name) ∙ h in cc);
}

module _ (functions : List Function) (assignments : Assignments) where
  -- admitted functions stay admitted if more is readable
  pub admitted_on : (readable more : ℕ → Bool) (admitted : Text → Bool) → ((n : ℕ) → IsTrue (readable n) → IsTrue (more n))
      → IsAdmitted functions readable admitted → IsAdmitted functions more admitted
  admitted_on readable more admitted on closed = record {
    reads = λ name f h found n s. ⊎_elim (λ own. inl own) (λ k. inr (on n k)) (closed.reads name f h found n s);
    calls = closed.calls;
  }

  -- an assignment is taken, and what it reads is readable
  pub takes_one : (t : Token) (a : Assignment) (taken next readable more : ℕ → Bool) (old admitted : Text → Bool)
      → IsTakenBy functions assignments taken readable old → assignment_at assignments t.lexeme ≡ Some a →
      IsAdmitted functions readable admitted → ReadsReadable functions readable a →
      ((n : ℕ) → IsTrue (next n) ↔ (IsTrue (taken n) ⊎ (a.number ≡ n))) → ((n : ℕ) → IsTrue (readable n) → IsTrue (more n))
      → IsTakenBy functions assignments next more admitted
  takes_one t a taken next readable more old admitted by_now found closed reads adds on = record {
    closed = admitted_on readable more admitted on closed;
    origin = λ n h. ⊎_elim
        (λ k. let was = by_now.origin n k in (was.0, was.1, was.2, was.3, λ m r. on m (was.4 m r)))
        (λ is. (t.lexeme, a, found, is, λ m r. on m (reads m r)))
        ((adds n).0 h);
  }

  -- ---- one name

  abbrev Changes : (ℕ → Bool) → (ℕ → Bool) → Token → Type 0
  Changes taken next t = (n : ℕ) → IsTrue (next n) ↔ (IsTrue (taken n) ⊎ IsNumberOf assignments t n)

  module _ (t : Token) (a : Assignment) (found : assignment_at assignments t.lexeme ≡ Some a) where
    is_the_one : (b : Assignment) → assignment_at assignments t.lexeme ≡ Some b → a ≡ b
    is_the_one b found_b = let e = sym found ∙ found_b in cc

    -- the assignment decides
    may_come_found : (readable : ℕ → Bool) → (assignments.referenced a.number ≡ true → ReadsReadable functions readable a)
        → MayComeNext functions assignments (λ n. IsTrue (readable n)) t
    may_come_found readable reads = (
      (a, found),
      (λ b found_b referenced.
          let one = is_the_one b found_b in
          subst (ReadsReadable functions readable) one (reads (ap (λ (c : Assignment). assignments.referenced c.number) one ∙ referenced))),
    )

    -- it is not referenced
    pub passed_over : (readable : ℕ → Bool) → assignments.referenced a.number ≡ false → MayComeNext functions assignments (λ n. IsTrue (readable n)) t
    passed_over readable off = may_come_found readable (λ on. absurd (let e : false ≡ true = sym off ∙ on in cc))

    pub passed_over_takes_none : (taken : ℕ → Bool) → assignments.referenced a.number ≡ false → Changes taken taken t
    passed_over_takes_none taken off n = (
      (λ h. inl h),
      (λ h. ⊎_elim (λ k. k)
          (λ k. absurd (let e : false ≡ true = sym off ∙ (ap (λ (b : Assignment). assignments.referenced b.number) (is_the_one k.0 k.1) ∙ k.2) in cc)) h),
    )

    -- it was taken before
    pub comes_again : (taken readable : ℕ → Bool) (admitted : Text → Bool) → AreDistinct (map (λ v. v.number) assignments.all)
        → IsTakenBy functions assignments taken readable admitted → IsTrue (taken a.number) →
        MayComeNext functions assignments (λ n. IsTrue (readable n)) t
    comes_again taken readable admitted distinct by_now there = may_come_found readable
        (λ on n r.
        let was = by_now.origin a.number there in
        let same = one_assignment assignments.all distinct was.1 a (found_in was.0 assignments.all was.1 was.2)
        (found_in t.lexeme assignments.all a found) was.3 in
        was.4 n (subst (λ (b : Assignment). Reads functions b.value n) (sym same) r))

    pub comes_again_takes_none : (taken : ℕ → Bool) → IsTrue (taken a.number) → Changes taken taken t
    comes_again_takes_none taken there n = (
      (λ h. inl h),
      (λ h. ⊎_elim (λ k. k) (λ k. subst (λ m. taken m ≡ true) (ap (λ (b : Assignment). b.number) (is_the_one k.0 k.1) ∙ k.3) there) h),
    )

    -- it is taken now, or it reads too early
    pub comes_now : {A : Type 0} (seen : A → ModuleFault) (readable : ℕ → Bool) (r : Option A) → assignments.referenced a.number ≡ true
        → MatchOption r (ReadsReadable functions readable a) (λ f. ReadsUntaken functions (λ n. IsTrue (readable n)) a (seen f)) →
        FindsMisplaced functions assignments readable t (option_map seen r)
    comes_now seen readable None on h = may_come_found readable (λ referenced. h)
    comes_now seen readable (Some f) on h = inr (a, found, on, h)

    pub comes_now_takes_one : (taken next : ℕ → Bool) → assignments.referenced a.number ≡ true
        → ((n : ℕ) → IsTrue (next n) ↔ (IsTrue (taken n) ⊎ (a.number ≡ n))) → Changes taken next t
    comes_now_takes_one taken next on adds n = (
      (λ h. ⊎_elim (λ k. inl k) (λ is. inr (a, found, on, is)) ((adds n).0 h)),
      (λ h. (adds n).1 (⊎_elim (λ k. inl k) (λ k. inr (ap (λ (b : Assignment). b.number) (is_the_one k.0 k.1) ∙ k.3)) h)),
    )

  -- ---- the order, name by name

  -- A list of the numbers taken so far, with the same members as the set; and what is found in the rest of the order is
  -- found in all of it.
  pub record IsWalkedTo (outer : Frames) (taken readable : ℕ → Bool) (admitted : Text → Bool) (left all : List Token) : Type 0 where
    pub by_now : IsTakenBy functions assignments taken readable admitted
    pub readable_if : (n : ℕ) → IsTrue (readable n) ↔ (IsTrue (taken n) ⊎ HasValue (value_in outer) n)
    pub numbers : List ℕ
    pub same : (n : ℕ) → IsIn numbers n ↔ IsTrue (taken n)
    pub leads : Leads (IsSound functions assignments outer) (IsFaulty functions assignments outer) (name_places assignments numbers left)
        (name_places assignments [] all)

  module _ (outer : Frames) where
    -- what is readable was taken or is bound outside
    pub taken_or_bound : (taken readable : ℕ → Bool) (numbers : List ℕ) → ((n : ℕ) → IsTrue (readable n) ↔ (IsTrue (taken n) ⊎ HasValue (value_in outer) n))
        → ((n : ℕ) → IsIn numbers n ↔ IsTrue (taken n)) →
        (n : ℕ) → IsTrue (readable n) ↔ IsTakenOrBound outer numbers n
    taken_or_bound taken readable numbers readable_if same n = (
      (λ h. ⊎_elim (λ k. inl ((same n).1 k)) (λ k. inr k) ((readable_if n).0 h)),
      (λ h. (readable_if n).1 (⊎_elim (λ k. inl ((same n).0 k)) (λ k. inr k) h)),
    )

    -- if the same is readable, the same may come next and the same may not
    pub next_alike : (P Q : ℕ → Type 0) (t : Token) → ((n : ℕ) → P n ↔ Q n) → MayComeNext functions assignments P t → MayComeNext functions assignments Q t
    next_alike P Q t same h = (h.0, λ a found referenced n r. (same n).0 (h.1 a found referenced n r))

    beyond_alike : (P Q : ℕ → Type 0) (e : Expr) (v : Token) → ((n : ℕ) → P n ↔ Q n) → IsUnreadableBeyond functions P e v → IsUnreadableBeyond functions Q e v
    beyond_alike P Q e v same b = record {
      name = b.name;
      function = b.function;
      reached = b.reached;
      found = b.found;
      first = unreadable_alike (λ n. IsAmong b.function.parameters n ⊎ P n) (λ n. IsAmong b.function.parameters n ⊎ Q n)
          (λ n. ((λ h. ⊎_elim (λ k. inl k) (λ k. inr ((same n).0 k)) h), (λ h. ⊎_elim (λ k. inl k) (λ k. inr ((same n).1 k)) h)))
          (occurrences_in b.function.body) (Some v) b.first;
    }

    reads_alike : (P Q : ℕ → Type 0) (e : Expr) (v : Token) → ((n : ℕ) → P n ↔ Q n) → IsUnreadable functions P P e v → IsUnreadable functions Q Q e v
    reads_alike P Q e v same (inl first) = inl (unreadable_alike P Q same (occurrences_in e) (Some v) first)
    reads_alike P Q e v same (inr later) = inr (unreadable_alike P Q same (occurrences_in e) None later.0, beyond_alike P Q e v same later.1)

    pub misplaced_alike : (P Q : ℕ → Type 0) (t : Token) (f : ModuleFault) → ((n : ℕ) → P n ↔ Q n) → IsMisplaced functions assignments P t f
        → IsMisplaced functions assignments Q t f
    misplaced_alike P Q t f same (inl none) = inl none
    misplaced_alike P Q t f same (inr r) = inr (r.0, r.1, r.2, (r.3.0, r.3.1, reads_alike P Q r.0.value r.3.0 same r.3.2))

    with_one : (o : Option Assignment) (numbers : List ℕ) (n : ℕ) → IsIn (with_taken assignments o numbers) n
        ↔ (IsIn numbers n ⊎ ((a : Assignment) × (o ≡ Some a) × (assignments.referenced a.number ≡ true) × (a.number ≡ n)))
    with_one None numbers n = ((λ h. inl h), (λ h. ⊎_elim (λ k. k) (λ k. absurd (let e : None ≡ Some k.0 = k.1 in cc)) h))
    with_one (Some a) numbers n = by (assignments.referenced a.number) refl
      where
        by : (b : Bool) → assignments.referenced a.number ≡ b → IsIn (cond b (a.number ∷ numbers) numbers) n
            ↔ (IsIn numbers n ⊎ ((c : Assignment) × (Some a ≡ Some c) × (assignments.referenced c.number ≡ true) × (c.number ≡ n)))
        by true e = (
          (λ h. ⊎_elim (λ k. inr (a, refl, e, k)) (λ k. inl k) h),
          (λ h. ⊎_elim (λ k. inr k) (λ k. inl (let f : Some a ≡ Some k.0 = k.1 in let is : a ≡ k.0 = cc in ap (λ (c : Assignment). c.number) is ∙ k.3)) h),
        )
        by false e = (
          (λ h. inl h),
          (λ h. ⊎_elim (λ k. k) (λ k. absurd (let f : Some a ≡ Some k.0 = k.1 in let is : a ≡ k.0 = cc in let off : false ≡ true =
              sym e ∙ ap (λ (c : Assignment). assignments.referenced c.number) is ∙ k.2 in cc)) h),
        )

    -- the list and the set have the same members after one more name
    pub same_members : (taken next : ℕ → Bool) (numbers : List ℕ) (t : Token) → ((n : ℕ) → IsIn numbers n ↔ IsTrue (taken n)) → Changes taken next t
        → (n : ℕ) → IsIn (with_taken assignments (assignment_at assignments t.lexeme) numbers) n ↔ IsTrue (next n)
    same_members taken next numbers t same number n = (
      (λ h. (number n).1 (⊎_elim (λ k. inl ((same n).0 k)) (λ k. inr k) ((with_one (assignment_at assignments t.lexeme) numbers n).0 h))),
      (λ h. (with_one (assignment_at assignments t.lexeme) numbers n).1 (⊎_elim (λ k. inl ((same n).1 k)) (λ k. inr k) ((number n).0 h))),
    )

    module _ (taken readable : ℕ → Bool) (admitted : Text → Bool) (t : Token) (left all : List Token)
        (w : IsWalkedTo outer taken readable admitted (t ∷ left) all) where
      -- one more name was taken
      pub walks_on : (next more : ℕ → Bool) (admits : Text → Bool) → IsTakenBy functions assignments next more admits
          → ((n : ℕ) → IsTrue (more n) ↔ (IsTrue (next n) ⊎ HasValue (value_in outer) n)) →
          ((n : ℕ) → IsTrue (next n) ↔ (IsTrue (taken n) ⊎ IsNumberOf assignments t n)) → MayComeNext functions assignments (λ n. IsTrue (readable n)) t
          → IsWalkedTo outer next more admits left all
      walks_on next more admits by_then more_if number follows = record {
        by_now = by_then;
        readable_if = more_if;
        numbers = with_taken assignments (assignment_at assignments t.lexeme) w.numbers;
        same = same_members taken next w.numbers t w.same number;
        leads = leads_on (IsSound functions assignments outer) (IsFaulty functions assignments outer) (name_places assignments w.numbers (t ∷ left))
            (name_places assignments (with_taken assignments (assignment_at assignments t.lexeme) w.numbers) left) (name_places assignments [] all) w.leads
            (NameOf t w.numbers) refl (next_alike (λ n. IsTrue (readable n)) (IsTakenOrBound outer w.numbers) t
            (taken_or_bound taken readable w.numbers w.readable_if w.same) follows);
      }

      -- a name that may not come next is the one found
      pub walks_off : (f : ModuleFault) → IsMisplaced functions assignments (λ n. IsTrue (readable n)) t f
          → Finds (IsSound functions assignments outer) (IsFaulty functions assignments outer) (name_places assignments [] all) (Some f)
      walks_off f bad = leads_off (IsSound functions assignments outer) (IsFaulty functions assignments outer) (name_places assignments w.numbers (t ∷ left))
          (name_places assignments (with_taken assignments (assignment_at assignments t.lexeme) w.numbers) left) (name_places assignments [] all) w.leads
          (NameOf t w.numbers) f refl (misplaced_alike (λ n. IsTrue (readable n)) (IsTakenOrBound outer w.numbers) t f
          (taken_or_bound taken readable w.numbers w.readable_if w.same) bad)

    -- the result of a search that meets a name that may not come next
    pub spoils : (taken readable : ℕ → Bool) (admitted : Text → Bool) (t : Token) (left start all : List Token) (r : Option ModuleFault) → start ≡ t ∷ left
        → IsWalkedTo outer taken readable admitted start all → is_some r ≡ true → FindsMisplaced functions assignments readable t r →
        Finds (IsSound functions assignments outer) (IsFaulty functions assignments outer) (name_places assignments [] all) r
    spoils taken readable admitted t left start all None is w some h = absurd (let e : false ≡ true = some in cc)
    spoils taken readable admitted t left start all (Some f) is w some h =
        walks_off taken readable admitted t left all (subst (λ l. IsWalkedTo outer taken readable admitted l all) is w) f h

    -- nothing is found if all names were walked
    pub walked_all : (taken readable : ℕ → Bool) (admitted : Text → Bool) (start all : List Token) → start ≡ []
        → IsWalkedTo outer taken readable admitted start all →
        Finds (IsSound functions assignments outer) (IsFaulty functions assignments outer) (name_places assignments [] all) None
    walked_all taken readable admitted start all is w =
        let ended = subst (λ l. IsWalkedTo outer taken readable admitted l all) is w in
        ended.leads None tt

    -- nothing is taken yet
    pub walks_from : (taken readable : ℕ → Bool) (admitted : Text → Bool) (all : List Token) → ((n : ℕ) → taken n ≡ false)
        → ((name : Text) → admitted name ≡ false) → ((n : ℕ) → IsTrue (readable n) ↔ (IsTrue (taken n) ⊎ HasValue (value_in outer) n)) →
        IsWalkedTo outer taken readable admitted all all
    walks_from taken readable admitted all none nothing readable_if = record {
      by_now = record {
        closed = none_admitted functions readable admitted nothing;
        origin = λ n h. absurd (let e : false ≡ true = sym (none n) ∙ h in cc);
      };
      readable_if = readable_if;
      numbers = [];
      same = no_member taken none;
      leads = λ r h. h;
    }

-- ---- the names of an order

abbrev empty_name : Bor Text
empty_name = record { ref_ptr = (0, 0); now = [] }

-- the name that comes next
abbrev pub name_at : List Name → ℕ → Name
name_at names i = get_or names i (record { token = record { column = 0; line = 0; offset = 0; lexeme = empty_name; path = empty_name } })

-- the rest of the order begins with it
pub begins_with_name : (names : List Name) (i : ℕ) → i < length names
    → map name_view (drop i names) ≡ name_view (name_at names i) ∷ map name_view (drop (i + 1) names)
begins_with_name names i within = ap (map name_view) (front_at names i _ within)

-- ---- results

-- nothing is found: an assignment reads only what is readable
pub reads_if : {A P : Type 0} (Q : A → Type 0) (r : Option A) → MatchOption r P Q → is_some r ≡ false → P
reads_if Q None h none = h
reads_if Q (Some x) h none = absurd (let e : true ≡ false = none in cc)

pub all_three : {X E : Type 0} (r : Result X E) (P Q R S : X → Type 0) → ((x : X) → P x → Q x → R x → S x) → IfOk r P → IfOk r Q → IfOk r R → IfOk r S
all_three (Ok x) P Q R S f p q s = f x p q s
all_three (Err e) P Q R S f p q s = tt
