-- Assignments by their numbers.
use Rattle.std.proofs.Common.{◌≡◌, ◌↔◌, inl, inr, ◌+◌, ◌<◌, ℕ, Bool, true, false, cond, List, [], ◌∷◌, ◌++◌, map, drop, take, Some, None}
use Rattle.std.proofs.Common.{IsSome, IfSome, nat_eq}
use Rattle.std.proofs.Common.{get_or, length, refl, ap, sym, ◌∙◌, subst, option_map}
use Rattle.std.specs.HashMap.{HashMap}
use Rattle.std.specs.Map.{lookup}
use Rattle.std.specs.List.{AllByRecursion}
use Rattle.std.specs.List.Sorted.{IsPermutation}
use Rattle.std.proofs.lemmas.Bool.{eq-eqb, eqb-true}
use Rattle.std.specs.Str.{bytes_eq}
use Rattle.std.proofs.lemmas.List.{append_assoc, append-nil, take-append-drop}
use Rattle.std.proofs.lemmas.List.Sorted.{Contains-permutation, IsPermutation-sym}
use Rattle.just_syntax.proofs.Lists.{all_append, in_append, in_map, in_of, of_in}
use Rattle.just_syntax.specs.Keyed.{value_at}
use Rattle.just_resolution.proofs.Sets.{front, taken_more}
use Rattle.just_syntax.specs.declared.name.Name.{Name}
use Rattle.just_resolve.specs.Prelude.{AreDistinct, Assignment, HasNames, IsIn, IsNameOf, IsOrder, Text, Token, name_numbered, name_view}
use Rattle.just_resolve.proofs.Rings.{one_assignment}

-- ---- membership

permuted : {A B : Type 0} (f : A → B) (xs ys : List A) (y : B) → IsPermutation xs ys → IsIn (map f xs) y → IsIn (map f ys) y
permuted f xs ys y p h =
    let x = (in_map f xs y).0 h in
    (in_map f ys y).1 (x.0, in_of ys x.0 (Contains-permutation xs ys x.0 p (of_in xs x.0 x.1)), x.2)

-- a permutation has the same elements
pub in_permutation : {A B : Type 0} (f : A → B) (xs ys : List A) (y : B) → IsPermutation xs ys → IsIn (map f ys) y ↔ IsIn (map f xs) y
in_permutation f xs ys y p = (permuted f ys xs y (IsPermutation-sym xs ys p), permuted f xs ys y p)

pub all_in : {A : Type 0} (P : A → Type 0) (xs : List A) (x : A) → AllByRecursion P xs → IsIn xs x → P x
all_in P [] x all h = absurd h
all_in P (y ∷ ys) x all (inl same) = subst P same all.0
all_in P (y ∷ ys) x all (inr later) = all_in P ys x all.1 later

-- the element at an index
pub item_in : {A : Type 0} (xs : List A) (i : ℕ) (x : A) → i < length xs → x ≡ get_or xs i x → IsIn xs x
item_in xs i x within is =
    let split : xs ≡ take i xs ++ x ∷ drop (i + 1) xs = sym (take-append-drop i xs) ∙ ap (λ ys. take i xs ++ ys) (front xs i x within is) in
    subst (λ ys. IsIn ys x) (sym split) ((in_append (take i xs) (x ∷ drop (i + 1) xs) x).1 (inr (inl refl)))

-- one more element
pub taken_plain : {A : Type 0} (xs : List A) (i : ℕ) (x : A) → i < length xs → x ≡ get_or xs i x → take (i + 1) xs ≡ take i xs ++ x ∷ []
taken_plain {A = A} xs i x within is = sym (map_same (take (i + 1) xs)) ∙ taken_more (λ y. y) xs i x within is ∙ ap (λ ys. ys ++ x ∷ []) (map_same (take i xs))
  where
    map_same : (ys : List A) → map (λ y. y) ys ≡ ys
    map_same [] = refl
    map_same (y ∷ ys) = ap (λ zs. y ∷ zs) (map_same ys)

-- ---- names by numbers

-- The names of the assignments so far, by their numbers.
pub record IsIndexed {S : Type 0} (all rest : List Assignment) (names : HashMap ℕ Name S) : Type 0 where
  pub done : List Assignment
  pub same : done ++ rest ≡ all
  pub known : AllByRecursion (λ (a : Assignment). IsSome (name_numbered names a.number)) done
  pub named : (n : ℕ) → IfSome (name_numbered names n) (IsNameOf all n)

pub index_begins : {S : Type 0} (all : List Assignment) (names : HashMap ℕ Name S) → names.entries ≡ [] → IsIndexed all all names
index_begins all names empty = record {
  done = [];
  same = refl;
  known = tt;
  named = λ n. let none : name_numbered names n ≡ None = ap (λ (es : List (ℕ × Name)). option_map name_view (lookup (nat_eq n) es)) empty in
      subst (λ o. IfSome o (IsNameOf all n)) (sym none) tt;
}

module _ {S : Type 0} (all rest start : List Assignment) (a : Assignment) (old new : HashMap ℕ Name S) (w : IsIndexed all start old) (is : start ≡ a ∷ rest)
    (updates : (n : ℕ) → name_numbered new n ≡ cond (nat_eq a.number n) (Some a.name) (name_numbered old n)) where
  looked : (n : ℕ) (b : Bool) → nat_eq a.number n ≡ b → name_numbered new n ≡ cond b (Some a.name) (name_numbered old n)
  looked n b e = updates n ∙ ap (λ c. cond c (Some a.name) (name_numbered old n)) e

  a_in : IsIn all a
  a_in = subst (λ xs. IsIn xs a) w.same ((in_append w.done start a).1 (inr (subst (λ xs. IsIn xs a) (sym is) (inl refl))))

  still : (n : ℕ) (b : Bool) → nat_eq a.number n ≡ b → IsSome (name_numbered old n) → IsSome (name_numbered new n)
  still n true e h = subst IsSome (sym (looked n true e)) refl
  still n false e h = subst IsSome (sym (looked n false e)) h

  still_all : (xs : List Assignment) → AllByRecursion (λ (b : Assignment). IsSome (name_numbered old b.number)) xs
      → AllByRecursion (λ (b : Assignment). IsSome (name_numbered new b.number)) xs
  still_all [] h = tt
  still_all (x ∷ xs) h = (still x.number (nat_eq a.number x.number) refl h.0, still_all xs h.1)

  named_now : (n : ℕ) (b : Bool) → nat_eq a.number n ≡ b → IfSome (name_numbered new n) (IsNameOf all n)
  named_now n true e = subst (λ o. IfSome o (IsNameOf all n)) (sym (looked n true e))
      (record { assignment = a; known = a_in; numbered = eqb-true a.number n e; named = refl })
  named_now n false e = subst (λ o. IfSome o (IsNameOf all n)) (sym (looked n false e)) (w.named n)

  -- one more assignment
  pub index_more : IsIndexed all rest new
  index_more = record {
    done = w.done ++ a ∷ [];
    same = append_assoc w.done (a ∷ []) rest ∙ ap (λ xs. w.done ++ xs) (sym is) ∙ w.same;
    known = (all_append (λ (b : Assignment). IsSome (name_numbered new b.number)) w.done (a ∷ [])).1
        (still_all w.done w.known, (subst IsSome (sym (looked a.number true (eq-eqb a.number a.number refl))) refl, tt));
    named = λ n. named_now n (nat_eq a.number n) refl;
  }

-- all assignments are indexed
pub index_all : {S : Type 0} (all rest : List Assignment) (names : HashMap ℕ Name S) → IsIndexed all rest names → rest ≡ []
    → AllByRecursion (λ (a : Assignment). IsSome (name_numbered names a.number)) all
index_all all rest names w none =
    subst (AllByRecursion (λ (a : Assignment). IsSome (name_numbered names a.number)))
    (sym (append-nil w.done) ∙ ap (λ xs. w.done ++ xs) (sym none) ∙ w.same) w.known

-- ---- names of numbers

pub names_begin : (all : List Assignment) → HasNames all [] []
names_begin all = record { members = []; known = tt; numbered = refl; named = refl }

-- one more number, whose name was found
pub names_more : (all : List Assignment) (ns : List ℕ) (names : List Token) (n : ℕ) (name : Token) → HasNames all ns names → IsNameOf all n name
    → HasNames all (ns ++ n ∷ []) (names ++ name ∷ [])
names_more all ns names n name w is = record {
  members = w.members ++ is.assignment ∷ [];
  known = (all_append (IsIn all) w.members (is.assignment ∷ [])).1 (w.known, (is.known, tt));
  numbered = last (λ (a : Assignment). a.number) w.members is.assignment ∙ ap (λ xs. xs ++ is.assignment.number ∷ []) w.numbered
      ∙ ap (λ k. ns ++ k ∷ []) is.numbered;
  named = last (λ (a : Assignment). a.name) w.members is.assignment ∙ ap (λ xs. xs ++ is.assignment.name ∷ []) w.named ∙ ap (λ k. names ++ k ∷ []) is.named;
}
  where
    last : {B : Type 0} (f : Assignment → B) (xs : List Assignment) (x : Assignment) → map f (xs ++ x ∷ []) ≡ map f xs ++ f x ∷ []
    last f [] x = refl
    last f (y ∷ ys) x = ap (λ zs. f y ∷ zs) (last f ys x)

-- a number of an assignment has a name
pub number_named_there : {S : Type 0} (all : List Assignment) (names : HashMap ℕ Name S) (n : ℕ)
    → AllByRecursion (λ (a : Assignment). IsSome (name_numbered names a.number)) all → IsIn (map (λ (a : Assignment). a.number) all) n
    → IsSome (name_numbered names n)
number_named_there all names n known h =
    let a = (in_map (λ (a : Assignment). a.number) all n).0 h in
    subst (λ k. IsSome (name_numbered names k)) a.2 (all_in (λ (a : Assignment). IsSome (name_numbered names a.number)) all a.0 known a.1)

-- ---- orders

-- the names of distinct numbers that are those of all assignments
pub order_of : (all : List Assignment) (numbers : List ℕ) (names : List Token) → AreDistinct (map (λ (a : Assignment). a.number) all) → AreDistinct numbers
    → ((n : ℕ) → IsIn (map (λ (a : Assignment). a.number) all) n → IsIn numbers n) → HasNames all numbers names → IsOrder all names
order_of all numbers names distinct once there has = record {
  taken = has.members;
  named = has.named;
  once = subst AreDistinct (sym has.numbered) once;
  same = λ a. (
    (λ h. all_in (IsIn all) has.members a has.known h),
    (λ h. let number = there a.number ((in_map (λ (b : Assignment). b.number) all a.number).1 (a, h, refl)) in
        let b = (in_map (λ (b : Assignment). b.number) has.members a.number).0 (subst (λ ns. IsIn ns a.number) (sym has.numbered) number) in
        let same : b.0 ≡ a = one_assignment all b.0 a distinct (all_in (IsIn all) has.members b.0 has.known b.1) h b.2 in
        subst (IsIn has.members) same b.1),
  );
}

-- the number of a name is that of an assignment
pub named_there : (all : List Assignment) (name : Text) (n : ℕ)
    → option_map (λ (a : Assignment). a.number) (value_at (λ (a : Assignment). a.name.lexeme) name all) ≡ Some n
    → IsIn (map (λ (a : Assignment). a.number) all) n
named_there [] name n is = absurd (cc)
named_there (a ∷ all) name n is = by (λ e. named_there all name n e) (bytes_eq name a.name.lexeme) is
  where
    by : (option_map (λ (a : Assignment). a.number) (value_at (λ (a : Assignment). a.name.lexeme) name all) ≡ Some n
        → IsIn (map (λ (a : Assignment). a.number) all) n) → (b : Bool)
        → option_map (λ (a : Assignment). a.number) (cond b (Some a) (value_at (λ (a : Assignment). a.name.lexeme) name all)) ≡ Some n
        → IsIn (map (λ (a : Assignment). a.number) (a ∷ all)) n
    by later true e = inl (let same : a.number ≡ n = cc in same)
    by later false e = inr (later e)
