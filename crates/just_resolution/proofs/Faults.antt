-- Faults, and resolved modules.
use Rattle.std.proofs.Common.{◌≡◌, ◌↔◌, ◌⊎◌, inl, inr, ⊎_elim, ℕ, true, false, List, [], ◌∷◌, ◌++◌, map, Option, Some, None, is_some, option_map, refl, ap, sym}
use Rattle.std.proofs.Common.{Bor, ◌∙◌, subst, IfSome, IsNone}
use Rattle.std.specs.List.{AllByRecursion}
use Rattle.std.proofs.lemmas.Bool.{cases_eq}
use Rattle.std.proofs.lemmas.List.{map-append}
use Rattle.std.proofs.lemmas.Map.Iter.{rest_more}
use Rattle.std.specs.Map.Iter.{TakesFirst, deref}
use Rattle.just_resolution.specs.Prelude.{AreAssignments, AreDistinct, AreInOrder, Assignment, Assignments, BoundParameter, Expr, Finds, FindsUnknown, Frames}
use Rattle.just_resolution.specs.Prelude.{Function, HasFault, HasValue, IsAmong, IsFaulty, IsFirstFault, IsIn, IsKnownAt, IsMisplaced, IsResolved, IsSound}
use Rattle.just_resolution.specs.Prelude.{IsUnreadable, IsUnreadableAt, MayBeRead, MayComeNext, ModuleFault, NameOf, NumberOf, Occurrence, Occurs, Parameter}
use Rattle.just_resolution.specs.Prelude.{ParameterOf, Token, VariableOf}
use Rattle.just_resolution.specs.Prelude.{all_occurrences, assignment_at, name_places, number_places, numbered_assignments, numbered_parameters}
use Rattle.just_resolution.specs.Prelude.{occurrences_in, parameter_numbers, parameter_places, value_in, with_taken}
use Rattle.just_syntax.proofs.Lists.{all_append, all_map}
use Rattle.just_meaning.specs.Reaches.{ReadsBeyond}
use Rattle.just_meaning.proofs.Distinct.{distinct_front}
use Rattle.just_resolution.specs.Fault.{CheckedPlace, OccurrenceOf, occurrence_places, places}
use Rattle.just_resolution.specs.Unreadable.{IsFirstUnreadable}
use Rattle.just_resolution.proofs.Finding.{Leads, finds_left, finds_map, finds_right, leads_out, leads_past, not_sound, sound_if}
use Rattle.just_resolution.proofs.Occurrences.{all_may_be_read, fault_unknown, known_all}

-- what is found at the remaining occurrences is found at all
abbrev pub LeadsUnknown : List Function → List Occurrence → List Occurrence → Type 0
LeadsUnknown functions left all = Leads (IsKnownAt functions) (HasFault functions) left all

module _ (functions : List Function) (start left all front : List Occurrence) (r : Option ModuleFault) (before : LeadsUnknown functions start all)
    (is : start ≡ front ++ left) (found : FindsUnknown functions front r) where
  -- nothing is found in a part
  pub unknown_past : is_some r ≡ false → LeadsUnknown functions left all
  unknown_past none =
      leads_past (IsKnownAt functions) (HasFault functions) start left all before front r is none found

  -- something is found in a part
  pub unknown_out : is_some r ≡ true → FindsUnknown functions all r
  unknown_out some =
      leads_out (IsKnownAt functions) (HasFault functions) start left all before front r is some found

-- the occurrences of some items begin with those of the next item
pub occurrences_left : {X Y : Type 0} (seen : X → Y) (part : Y → Expr) (start left : List X) (r : Option (Bor X)) (x : Bor X) → r ≡ Some x
    → TakesFirst (deref {X = X}) start r left
    → all_occurrences (map part (map seen start)) ≡ occurrences_in (part (seen x.now)) ++ all_occurrences (map part (map seen left))
occurrences_left {X = X} seen part start left r x is steps =
    ap (λ (xs : List X). all_occurrences (map part (map seen xs))) (rest_more (deref {X = X}) start left r x is steps)

-- the same for variables that may not be read
abbrev pub LeadsUnreadable : (ℕ → Type 0) → List Occurrence → List Occurrence → Type 0
LeadsUnreadable readable left all = Leads (MayBeRead readable) (IsUnreadableAt readable) left all

-- the same for parameters
abbrev pub LeadsBound : Frames → List (Token × ℕ) → List (Token × ℕ) → Type 0
LeadsBound outer left all = Leads (λ p. HasValue (value_in outer) p.1 → ⊥) (λ p f. (BoundParameter p.0 ≡ f) × HasValue (value_in outer) p.1) left all

-- ---- a fault is not sound

-- whether a number is that of a parameter
pub among_cases : (ps : List (Token × ℕ)) (n : ℕ) → IsAmong ps n ⊎ (IsAmong ps n → ⊥)
among_cases [] n = inr (λ h. h)
among_cases (p ∷ ps) n =
    ⊎_elim (λ e. inl (inl e)) (λ e. ⊎_elim (λ k. inl (inr k)) (λ k. inr (λ h. ⊎_elim (λ j. e j) (λ j. k j) h)) (among_cases ps n)) (cases_eq p.1 n)

first_apart : (readable : ℕ → Type 0) (e : Expr) (variable : Token) → IsFirstUnreadable readable e variable
    → ((n : ℕ) → Occurs e (VariableOf (Some n)) → readable n) → ⊥
first_apart readable e variable first all =
    not_sound (MayBeRead readable) (IsUnreadableAt readable) (λ o t bad fine. bad.1 fine) (occurrences_in e) variable first
    ((all_may_be_read readable e).1 all)

-- an expression with an unreadable variable does not read only what it may
pub unreadable_apart : (functions : List Function) (here readable : ℕ → Type 0) (e : Expr) (variable : Token) → IsUnreadable functions here readable e variable
    →
    ((n : ℕ) → Occurs e (VariableOf (Some n)) → here n) → ((n : ℕ) → ReadsBeyond functions e n → readable n) → ⊥
unreadable_apart functions here readable e variable (inl first) own beyond = first_apart here e variable first own
unreadable_apart functions here readable e variable (inr later) own beyond =
    let b = later.1 in
    first_apart (λ n. IsAmong b.function.parameters n ⊎ readable n) b.function.body variable b.first
    (λ n s. ⊎_elim (λ k. inl k)
    (λ other. inr (beyond n (record { name = b.name; function = b.function; reached = b.reached; found = b.found; occurs = s; beyond = other })))
    (among_cases b.function.parameters n))

misplaced_apart : (functions : List Function) (assignments : Assignments) (readable : ℕ → Type 0) (t : Token) (f : ModuleFault)
    → IsMisplaced functions assignments readable t f → MayComeNext functions assignments readable t → ⊥
misplaced_apart functions assignments readable t f (inl none) next = let e : None ≡ Some next.0.0 = sym none.1 ∙ next.0.1 in cc
misplaced_apart functions assignments readable t f (inr r) next =
    unreadable_apart functions readable readable r.0.value r.3.0 r.3.2 (λ n s. next.1 r.0 r.1 r.2 n (inl s)) (λ n b. next.1 r.0 r.1 r.2 n (inr b))

module _ (functions : List Function) (assignments : Assignments) (outer : Frames) where
  pub apart : (place : CheckedPlace) (f : ModuleFault) → IsFaulty functions assignments outer place f → IsSound functions assignments outer place → ⊥
  apart (NumberOf t n earlier) f bad fine = fine bad.1
  apart (ParameterOf t n) f bad fine = fine bad.1
  apart (OccurrenceOf o) f bad fine = fault_unknown functions o f bad fine
  apart (NameOf t taken) f bad fine = misplaced_apart functions assignments _ t f bad fine

  -- ---- what is sound

  -- names with numbers are sound if the numbers are distinct and none of them occurred before
  distinct_if : (earlier : List ℕ) (ps : List (Token × ℕ)) → AllByRecursion (IsSound functions assignments outer) (number_places earlier ps)
      ↔ (AreDistinct (map (λ p. p.1) ps) × ((n : ℕ) → IsIn (map (λ p. p.1) ps) n → IsIn earlier n → ⊥))
  distinct_if earlier [] = ((λ h. (tt, λ n one. absurd one)), (λ h. tt))
  distinct_if earlier (p ∷ ps) =
      let rest = distinct_if (p.1 ∷ earlier) ps in (
        (λ h.
            let r = rest.0 h.1 in (
              ((λ one. r.1 p.1 one (inl refl)), r.0),
              λ n one before. ⊎_elim (λ e. h.0 (subst (IsIn earlier) (sym e) before))
                  (λ later. r.1 n later (inr before)) one,
            )),
        (λ h. (
          (λ before. h.1 p.1 (inl refl) before),
          rest.1 (h.0.1, λ n one before. ⊎_elim (λ e. h.0.0 (subst (IsIn (map (λ q. q.1) ps)) (sym e) one)) (λ old. h.1 n (inr one) old) before),
        )),
      )

  pub all_distinct : (ps : List (Token × ℕ)) → AllByRecursion (IsSound functions assignments outer) (number_places [] ps) ↔ AreDistinct (map (λ p. p.1) ps)
  all_distinct ps = let all = distinct_if [] ps in ((λ h. (all.0 h).0), (λ d. all.1 (d, λ n one before. before)))

  -- the names of an order are sound if they may occur in it
  pub names_if : (taken : List ℕ) (left : List Token) → AllByRecursion (IsSound functions assignments outer) (name_places assignments taken left)
      ↔ (AreAssignments assignments left × AreInOrder functions assignments outer taken left)
  names_if taken [] = ((λ h. (tt, tt)), (λ h. tt))
  names_if taken (t ∷ left) = let rest = names_if (with_taken assignments (assignment_at assignments t.lexeme) taken) left in
      ((λ h. let r = rest.0 h.1 in ((h.0.0, r.0), (h.0.1, r.1))), (λ h. ((h.0.0, h.1.0), rest.1 (h.0.1, h.1.1))))

-- parameters are sound if none is bound outside
pub unbound_if : (outer : Frames) (ps : List (Token × ℕ)) → AllByRecursion (λ p. HasValue (value_in outer) p.1 → ⊥) ps
    ↔ ((n : ℕ) → IsIn (map (λ p. p.1) ps) n → HasValue (value_in outer) n → ⊥)
unbound_if outer [] = ((λ h n one b. one), (λ h. tt))
unbound_if outer (p ∷ ps) =
    let rest = unbound_if outer ps in (
      (λ h n one b. ⊎_elim (λ e. h.0 (subst (HasValue (value_in outer)) (sym e) b)) (λ later. rest.0 h.1 n later b) one),
      (λ h. ((λ b. h p.1 (inl refl) b), rest.1 (λ n one b. h n (inr one) b))),
    )

-- the numbers of all parameters
pub numbers_of : (fs : List Function) → map (λ p. p.1) (numbered_parameters fs) ≡ parameter_numbers fs
numbers_of [] = refl
numbers_of (f ∷ fs) =
    map-append (λ (p : Token × ℕ). p.1) f.parameters (numbered_parameters fs) ∙ ap (λ ns. map (λ (p : Token × ℕ). p.1) f.parameters ++ ns) (numbers_of fs)

pub numbers_alone : (all : List Assignment) → map (λ p. p.1) (numbered_assignments all) ≡ map (λ a. a.number) all
numbers_alone [] = refl
numbers_alone (a ∷ all) = ap (λ ns. a.number ∷ ns) (numbers_alone all)

pub all_numbers : (all : List Assignment) (ps : List (Token × ℕ)) → map (λ p. p.1) (numbered_assignments all ++ ps)
    ≡ map (λ a. a.number) all ++ map (λ p. p.1) ps
all_numbers all ps = map-append (λ (p : Token × ℕ). p.1) (numbered_assignments all) ps ∙ ap (λ ns. ns ++ map (λ (p : Token × ℕ). p.1) ps) (numbers_alone all)

-- a recipe's parameters with their numbers
abbrev pub recipe_pairs : List Parameter → List (Token × ℕ)
recipe_pairs ps = map (λ p. (p.name, p.number)) ps

recipe_numbers : (ps : List Parameter) → map (λ p. p.1) (recipe_pairs ps) ≡ map (λ p. p.number) ps
recipe_numbers [] = refl
recipe_numbers (p ∷ ps) = ap (λ ns. p.number ∷ ns) (recipe_numbers ps)

-- the numbers of the parameters of functions and of a recipe
pub parameters_with : (fs : List Function) (ps : List Parameter) → map (λ p. p.1) (numbered_parameters fs ++ recipe_pairs ps)
    ≡ parameter_numbers fs ++ map (λ p. p.number) ps
parameters_with fs ps =
    map-append (λ (p : Token × ℕ). p.1) (numbered_parameters fs) (recipe_pairs ps)
    ∙ ap (λ ns. ns ++ map (λ (p : Token × ℕ). p.1) (recipe_pairs ps)) (numbers_of fs) ∙ ap (λ ns. parameter_numbers fs ++ ns) (recipe_numbers ps)

-- the same after those of assignments
pub numbers_with : (all : List Assignment) (fs : List Function) (ps : List Parameter)
    → map (λ p. p.1) (numbered_assignments all ++ numbered_parameters fs ++ recipe_pairs ps)
    ≡ map (λ a. a.number) all ++ parameter_numbers fs ++ map (λ p. p.number) ps
numbers_with all fs ps =
    map-append (λ (p : Token × ℕ). p.1) (numbered_assignments all ++ numbered_parameters fs) (recipe_pairs ps)
    ∙ ap (λ ns. ns ++ map (λ (p : Token × ℕ). p.1) (recipe_pairs ps)) (all_numbers all (numbered_parameters fs)
    ∙ ap (λ ns. map (λ (a : Assignment). a.number) all ++ ns) (numbers_of fs))
    ∙ ap (λ ns. map (λ (a : Assignment). a.number) all ++ parameter_numbers fs ++ ns) (recipe_numbers ps)

-- ---- what is resolved

module _ (functions : List Function) (assignments : Assignments) (outer : Frames) where
  abbrev Sound : CheckedPlace → Type 0
  Sound place = IsSound functions assignments outer place

  abbrev Faulty : CheckedPlace → ModuleFault → Type 0
  Faulty place f = IsFaulty functions assignments outer place f

  abbrev numbers : List CheckedPlace
  numbers = number_places [] (numbered_assignments assignments.all ++ numbered_parameters functions)

  abbrev parameters : List CheckedPlace
  parameters = parameter_places (numbered_parameters functions)

  abbrev values : List CheckedPlace
  values = occurrence_places (map (λ a. a.value) assignments.all)

  abbrev bodies : List CheckedPlace
  bodies = occurrence_places (map (λ f. f.body) functions)

  abbrev names : List CheckedPlace
  names = name_places assignments [] assignments.order

  whole : map (λ p. p.1) (numbered_assignments assignments.all ++ numbered_parameters functions)
      ≡ map (λ a. a.number) assignments.all ++ parameter_numbers functions
  whole = all_numbers assignments.all (numbered_parameters functions)
      ∙ ap (λ ns. map (λ (a : Assignment). a.number) assignments.all ++ ns) (numbers_of functions)

  -- a module is resolved exactly if all its places are sound
  pub sound_if_resolved : AllByRecursion Sound (places functions assignments) ↔ IsResolved functions assignments outer
  sound_if_resolved =
      let first = all_append Sound (numbers ++ parameters) (values ++ (bodies ++ names)) in
      let second = all_append Sound numbers parameters in
      let third = all_append Sound values (bodies ++ names) in
      let fourth = all_append Sound bodies names in
      let distinct = all_distinct functions assignments outer (numbered_assignments assignments.all ++ numbered_parameters functions) in
      let unbound = unbound_if outer (numbered_parameters functions) in
      let in_values = known_all functions (map (λ a. a.value) assignments.all) in
      let in_bodies = known_all functions (map (λ f. f.body) functions) in
      let in_order = names_if functions assignments outer [] assignments.order in (
        (λ h.
            let a = first.0 h in
            let b = second.0 a.0 in
            let c = third.0 a.1 in
            let d = fourth.0 c.1 in
            let e = in_order.0 d.1 in
            record {
              distinct = subst AreDistinct whole (distinct.0 b.0);
              unbound = λ n one. unbound.0 ((all_map Sound (λ (p : Token × ℕ). ParameterOf p.0 p.1) (numbered_parameters functions)).0 b.1) n
                  (subst (λ ns. IsIn ns n) (sym (numbers_of functions)) one);
              values = in_values.0 ((all_map Sound OccurrenceOf (all_occurrences (map (λ a. a.value) assignments.all))).0 c.0);
              bodies = in_bodies.0 ((all_map Sound OccurrenceOf (all_occurrences (map (λ f. f.body) functions))).0 d.0);
              named = e.0;
              in_order = e.1;
            }),
        (λ r. first.1 (
          second.1 (
            distinct.1 (subst AreDistinct (sym whole) r.distinct),
            (all_map Sound (λ (p : Token × ℕ). ParameterOf p.0 p.1) (numbered_parameters functions)).1
                (unbound.1 (λ n one. r.unbound n (subst (λ ns. IsIn ns n) (numbers_of functions) one))),
          ),
          third.1 (
            (all_map Sound OccurrenceOf (all_occurrences (map (λ a. a.value) assignments.all))).1 (in_values.1 r.values),
            fourth.1 (
              (all_map Sound OccurrenceOf (all_occurrences (map (λ f. f.body) functions))).1 (in_bodies.1 r.bodies),
              in_order.1 (r.named, r.in_order),
            ),
          ),
        )),
      )

  -- a search through all places finds what is promised
  pub determined : {A : Type 0} (seen : A → ModuleFault) (r : Option A) → Finds Sound Faulty (places functions assignments) (option_map seen r)
      → (IsNone r ↔ IsResolved functions assignments outer) × IfSome r (λ f. IsFirstFault functions assignments outer (seen f))
  determined seen None h = (((λ e. sound_if_resolved.0 h), (λ resolved. refl)), tt)
  determined seen (Some f) h = (
    (
      (λ e. absurd (let off : true ≡ false = e in cc)),
      (λ resolved. absurd (not_sound Sound Faulty (apart functions assignments outer) (places functions assignments) (seen f) h
          (sound_if_resolved.1 resolved))),
    ),
    h,
  )

  -- a fault of the numbering
  pub first_numbering : (r : Option ModuleFault) → is_some r ≡ true → Finds Sound Faulty (numbers ++ parameters) r
      → Finds Sound Faulty (places functions assignments) r
  first_numbering r some found = finds_left Sound Faulty (numbers ++ parameters) (values ++ (bodies ++ names)) r some found

  module _ (numbering : Option ModuleFault) (well_numbered : is_some numbering ≡ false)
      (numbers_found : Finds Sound Faulty (numbers ++ parameters) numbering) where
    after_numbers : (r : Option ModuleFault) → Finds Sound Faulty (values ++ (bodies ++ names)) r → Finds Sound Faulty (places functions assignments) r
    after_numbers r found = finds_right Sound Faulty (numbers ++ parameters) (values ++ (bodies ++ names)) r
        (sound_if Sound Faulty (numbers ++ parameters) numbering well_numbered numbers_found) found

    -- numbers of assignments are distinct
    pub distinct_assignments : AreDistinct (map (λ a. a.number) assignments.all)
    distinct_assignments =
        let sound = (all_append Sound numbers parameters).0 (sound_if Sound Faulty (numbers ++ parameters) numbering well_numbered numbers_found) in
        distinct_front (map (λ a. a.number) assignments.all) (parameter_numbers functions)
        (subst AreDistinct whole
        ((all_distinct functions assignments outer (numbered_assignments assignments.all ++ numbered_parameters functions)).0 sound.0))

    -- a fault in a value
    pub first_value : (r : Option ModuleFault) → is_some r ≡ true → FindsUnknown functions (all_occurrences (map (λ a. a.value) assignments.all)) r
        → Finds Sound Faulty (places functions assignments) r
    first_value r some found =
        after_numbers r
        (finds_left Sound Faulty values (bodies ++ names) r some
        (finds_map Sound Faulty OccurrenceOf (all_occurrences (map (λ a. a.value) assignments.all)) r found))

    module _ (value : Option ModuleFault) (no_value : is_some value ≡ false)
        (values_found : FindsUnknown functions (all_occurrences (map (λ a. a.value) assignments.all)) value) where
      after_values : (r : Option ModuleFault) → Finds Sound Faulty (bodies ++ names) r → Finds Sound Faulty (places functions assignments) r
      after_values r found =
          after_numbers r
          (finds_right Sound Faulty values (bodies ++ names) r
          (sound_if Sound Faulty values value no_value (finds_map Sound Faulty OccurrenceOf (all_occurrences (map (λ a. a.value) assignments.all)) value
          values_found)) found)

      -- a fault in a body
      pub first_body : (r : Option ModuleFault) → is_some r ≡ true → FindsUnknown functions (all_occurrences (map (λ f. f.body) functions)) r
          → Finds Sound Faulty (places functions assignments) r
      first_body r some found =
          after_values r (finds_left Sound Faulty bodies names r some
          (finds_map Sound Faulty OccurrenceOf (all_occurrences (map (λ f. f.body) functions)) r found))

      -- a fault of the order, or none
      pub first_name : (body : Option ModuleFault) → is_some body ≡ false → FindsUnknown functions (all_occurrences (map (λ f. f.body) functions)) body
          → (r : Option ModuleFault) → Finds Sound Faulty names r → Finds Sound Faulty (places functions assignments) r
      first_name body no_body bodies_found r found =
          after_values r
          (finds_right Sound Faulty bodies names r
          (sound_if Sound Faulty bodies body no_body
          (finds_map Sound Faulty OccurrenceOf (all_occurrences (map (λ f. f.body) functions)) body bodies_found)) found)
