-- Faults that are the same in each order, and what is before a fault of the order.
use Rattle.std.proofs.Common.{◌≡◌, inl, inr, ⊎_elim, ℕ, List, [], ◌∷◌, ◌++◌, map, sym, ◌∙◌, ap, subst}
use Rattle.std.specs.List.{AllByRecursion}
use Rattle.std.proofs.lemmas.List.{append_assoc}
use Rattle.just_syntax.specs.Occurrences.{Occurrence, all_occurrences}
use Rattle.just_syntax.proofs.Lists.{all_append, all_map}
use Rattle.just_meaning.specs.Assignments.{Assignments, assignment_at}
use Rattle.just_meaning.specs.Resolved.{AllKnown, with_taken}
use Rattle.just_resolution.specs.Fault.{ArgumentCountMismatch, BoundParameter, CheckedPlace, DuplicateNumber, IsFaulty, IsFirstFault, IsSound, ModuleFault}
use Rattle.just_resolution.specs.Fault.{NameOf, NumberOf, OccurrenceOf, ParameterOf, UndefinedFunction, UndefinedVariable, UnknownAssignment, UntakenVariable}
use Rattle.just_resolution.specs.Fault.{name_places, number_places, numbered_parameters, occurrence_places, parameter_places}
use Rattle.just_resolution.specs.First.{IsFirstFaulty}
use Rattle.just_resolution.proofs.Occurrences.{known_all}
use Rattle.just_resolve.specs.Prelude.{Assignment, Frames, Function, IsOfMention, IsUntaken, Token, numbered_assignments, ordered}
use Rattle.just_resolve.proofs.Mentions.{mention_is}

-- it is no place of the order
abbrev IsFixed : CheckedPlace → Type 0
IsFixed (NameOf t taken) = ⊥
IsFixed place = Unit {0}

numbers_fixed : (earlier : List ℕ) (ps : List (Token × ℕ)) → AllByRecursion IsFixed (number_places earlier ps)
numbers_fixed earlier [] = tt
numbers_fixed earlier (p ∷ ps) = (tt, numbers_fixed (p.1 ∷ earlier) ps)

parameters_fixed : (ps : List (Token × ℕ)) → AllByRecursion IsFixed (parameter_places ps)
parameters_fixed [] = tt
parameters_fixed (p ∷ ps) = (tt, parameters_fixed ps)

occurrences_fixed : (ss : List Occurrence) → AllByRecursion IsFixed (map OccurrenceOf ss)
occurrences_fixed [] = tt
occurrences_fixed (s ∷ ss) = (tt, occurrences_fixed ss)

-- a place of the order
abbrev IsOfOrder : CheckedPlace → Type 0
IsOfOrder (NameOf t taken) = Unit {0}
IsOfOrder place = ⊥

names_of_order : (assignments : Assignments) (taken : List ℕ) (names : List Token) → AllByRecursion IsOfOrder (name_places assignments taken names)
names_of_order assignments taken [] = tt
names_of_order assignments taken (t ∷ names) =
    (tt, names_of_order assignments (with_taken assignments (assignment_at assignments t.lexeme) taken) names)

module _ (functions : List Function) (old new : Assignments) (outer : Frames) (f : ModuleFault) (mention : IsOfMention f) where
  sound_still : (place : CheckedPlace) → IsFixed place → IsSound functions old outer place → IsSound functions new outer place
  sound_still (NumberOf t n earlier) fixed h = h
  sound_still (ParameterOf t n) fixed h = h
  sound_still (OccurrenceOf s) fixed h = h
  sound_still (NameOf t taken) fixed h = absurd fixed

  faulty_still : (place : CheckedPlace) → IsFixed place → IsFaulty functions old outer place f → IsFaulty functions new outer place f
  faulty_still (NumberOf t n earlier) fixed h = h
  faulty_still (ParameterOf t n) fixed h = h
  faulty_still (OccurrenceOf s) fixed h = h
  faulty_still (NameOf t taken) fixed h = absurd fixed

  -- a place of the order has no such fault
  none_of_order : (place : CheckedPlace) → IsOfOrder place → IsFaulty functions old outer place f → ⊥
  none_of_order (NumberOf t n earlier) named h = named
  none_of_order (ParameterOf t n) named h = named
  none_of_order (OccurrenceOf s) named h = named
  none_of_order (NameOf t taken) named (inl u) = subst IsOfMention (sym u.0) mention
  none_of_order (NameOf t taken) named (inr r) = subst IsOfMention (sym r.3.1) mention

  none_there : (ys : List CheckedPlace) → AllByRecursion IsOfOrder ys
      → IsFirstFaulty (IsSound functions old outer) (λ y. IsFaulty functions old outer y f) ys → ⊥
  none_there [] all h = h
  none_there (y ∷ ys) all h = ⊎_elim (λ k. none_of_order y all.0 k) (λ k. none_there ys all.1 k.1) h

  -- the places of the order are exchanged
  first_still : (xs ys zs : List CheckedPlace) → AllByRecursion IsFixed xs → AllByRecursion IsOfOrder ys
      → IsFirstFaulty (IsSound functions old outer) (λ y. IsFaulty functions old outer y f) (xs ++ ys)
      → IsFirstFaulty (IsSound functions new outer) (λ y. IsFaulty functions new outer y f) (xs ++ zs)
  first_still [] ys zs fixed named h = absurd (none_there ys named h)
  first_still (x ∷ xs) ys zs fixed named h =
      ⊎_elim (λ k. inl (faulty_still x fixed.0 k)) (λ k. inr (sound_still x fixed.0 k.0, first_still xs ys zs fixed.1 named k.1)) h

-- ---- the places of a module, and then those of its order

module _ (functions : List Function) (all : List Assignment) where
  abbrev numbers : List CheckedPlace
  numbers = number_places [] (numbered_assignments all ++ numbered_parameters functions)

  abbrev parameters : List CheckedPlace
  parameters = parameter_places (numbered_parameters functions)

  abbrev values : List CheckedPlace
  values = occurrence_places (map (λ a. a.value) all)

  abbrev bodies : List CheckedPlace
  bodies = occurrence_places (map (λ g. g.body) functions)

  -- the places that are the same in each order
  abbrev front : List CheckedPlace
  front = (numbers ++ parameters) ++ (values ++ bodies)

  front_fixed : AllByRecursion IsFixed front
  front_fixed = (all_append IsFixed (numbers ++ parameters) (values ++ bodies)).1 (
    (all_append IsFixed numbers parameters).1
        (numbers_fixed [] (numbered_assignments all ++ numbered_parameters functions), parameters_fixed (numbered_parameters functions)),
    (all_append IsFixed values bodies).1 (
      occurrences_fixed (all_occurrences (map (λ a. a.value) all)),
      occurrences_fixed (all_occurrences (map (λ g. g.body) functions)),
    ),
  )

  grouped : (names : List CheckedPlace) → (numbers ++ parameters) ++ (values ++ (bodies ++ names)) ≡ front ++ names
  grouped names = ap (λ xs. (numbers ++ parameters) ++ xs) (sym (append_assoc values bodies names))
      ∙ sym (append_assoc (numbers ++ parameters) (values ++ bodies) names)

-- a fault of a variable or of a call is the first one in each order, if it is so in one
pub first_in_each : (functions : List Function) (all : List Assignment) (outer : Frames) (order other : List Token) (f : ModuleFault) → IsOfMention f
    → IsFirstFault functions (ordered all order) outer f → IsFirstFault functions (ordered all other) outer f
first_in_each functions all outer order other f mention first =
    let old = ordered all order in
    let new = ordered all other in
    subst (λ (xs : List CheckedPlace). IsFirstFaulty (IsSound functions new outer) (λ y. IsFaulty functions new outer y f) xs)
    (sym (grouped functions all (name_places new [] other)))
    (first_still functions old new outer f mention (front functions all) (name_places old [] order) (name_places new [] other)
    (front_fixed functions all) (names_of_order old [] order)
    (subst (λ (xs : List CheckedPlace). IsFirstFaulty (IsSound functions old outer) (λ y. IsFaulty functions old outer y f) xs)
    (grouped functions all (name_places old [] order)) first))

-- ---- what is before a fault of the order

not_both : (f : ModuleFault) → IsOfMention f → IsUntaken f → ⊥
not_both (ArgumentCountMismatch t n) mention untaken = untaken
not_both (BoundParameter t) mention untaken = mention
not_both (DuplicateNumber t) mention untaken = mention
not_both (UndefinedFunction t) mention untaken = untaken
not_both (UndefinedVariable t) mention untaken = untaken
not_both (UnknownAssignment t) mention untaken = mention
not_both (UntakenVariable a v) mention untaken = mention

module _ (functions : List Function) (m : Assignments) (outer : Frames) (f : ModuleFault) (untaken : IsUntaken f) where
  -- it is no fault of a place that is the same in each order
  not_fixed : (place : CheckedPlace) → IsFixed place → IsFaulty functions m outer place f → ⊥
  not_fixed (NumberOf t n earlier) fixed h = subst IsUntaken (sym h.0) untaken
  not_fixed (ParameterOf t n) fixed h = subst IsUntaken (sym h.0) untaken
  not_fixed (OccurrenceOf o) fixed h = not_both f (mention_is functions o f h) untaken
  not_fixed (NameOf t taken) fixed h = fixed

  sound_before : (xs ys : List CheckedPlace) → AllByRecursion IsFixed xs
      → IsFirstFaulty (IsSound functions m outer) (λ y. IsFaulty functions m outer y f) (xs ++ ys) → AllByRecursion (IsSound functions m outer) xs
  sound_before [] ys fixed h = tt
  sound_before (x ∷ xs) ys fixed h =
      ⊎_elim (λ k. absurd (not_fixed x fixed.0 k)) (λ k. (k.0, sound_before xs ys fixed.1 k.1)) h

-- all that the values and the bodies mention is known, if the first fault is one of the order
pub known_before : (functions : List Function) (all : List Assignment) (outer : Frames) (order : List Token) (f : ModuleFault) → IsUntaken f
    → IsFirstFault functions (ordered all order) outer f
    → AllKnown functions (map (λ a. a.value) all) × AllKnown functions (map (λ g. g.body) functions)
known_before functions all outer order f untaken first =
    let m = ordered all order in
    let sound = sound_before functions m outer f untaken (front functions all) (name_places m [] order) (front_fixed functions all)
    (subst (λ (xs : List CheckedPlace). IsFirstFaulty (IsSound functions m outer) (λ y. IsFaulty functions m outer y f) xs)
    (grouped functions all (name_places m [] order)) first) in
    let occurrences = (all_append (IsSound functions m outer) (numbers functions all ++ parameters functions all)
    (values functions all ++ bodies functions all)).0
    sound in
    let each = (all_append (IsSound functions m outer) (values functions all) (bodies functions all)).0 occurrences.1 in (
      (known_all functions (map (λ (a : Assignment). a.value) all)).0
          ((all_map (IsSound functions m outer) OccurrenceOf (all_occurrences (map (λ (a : Assignment). a.value) all))).0 each.0),
      (known_all functions (map (λ (g : Function). g.body) functions)).0
          ((all_map (IsSound functions m outer) OccurrenceOf (all_occurrences (map (λ (g : Function). g.body) functions))).0 each.1),
    )
