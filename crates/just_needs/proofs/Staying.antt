-- A resolved module stays resolved if only what is needed is evaluated, and what is overridden is not.
use Rattle.std.proofs.Common.{◌≡◌, ◌↔◌, ◌⊎◌, inl, inr, ℕ, Bool, true, false, cond, List, [], ◌∷◌, map, Option, Some, None, IsTrue, refl, ap, sym, ◌∙◌}
use Rattle.std.proofs.Common.{subst, if◌then◌else◌}
use Rattle.std.specs.Str.{bytes_eq}
use Rattle.just_syntax.specs.Plain.{Token}
use Rattle.just_meaning.specs.Assignments.{Assignments, assignment_at}
use Rattle.just_meaning.proofs.Overridden.{found_after, found_before, known_values, named_after, read_before, same_numbers, taken_after}
use Rattle.just_meaning.specs.Module.{with_overrides}
use Rattle.just_meaning.specs.Reaches.{Reads}
use Rattle.just_meaning.specs.Resolved.{AreInOrder, HasValue, IsResolved, with_taken}
use Rattle.just_value.specs.Value.{Value}
use Rattle.just_needs.specs.Prelude.{Assignment, Frames, Function, IsIn, IsNeeded, Text, value_in}
use Rattle.just_needs.specs.Needed.{ReadBy}
use Rattle.just_syntax.specs.Keyed.{value_at}

-- what a look-up finds is one of them
found_in : (all : List Assignment) (name : Text) (a : Assignment) → value_at (λ v. v.name.lexeme) name all ≡ Some a → IsIn all a
found_in [] name a found = absurd (cc)
found_in (b ∷ all) name a found = by (bytes_eq name b.name.lexeme) found (found_in all name a)
  where
    by : (t : Bool) → cond t (Some b) (value_at (λ v. v.name.lexeme) name all) ≡ Some a → (value_at (λ v. v.name.lexeme) name all ≡ Some a → IsIn all a)
        → IsIn (b ∷ all) a
    by true is rest = inl (let same : b ≡ a = cc in same)
    by false is rest = inr (rest is)

number_in : (all : List Assignment) (a : Assignment) → IsIn all a → IsIn (map (λ v. v.number) all) a.number
number_in [] a h = absurd h
number_in (v ∷ all) a (inl same) = inl (ap (λ (w : Assignment). w.number) same)
number_in (v ∷ all) a (inr later) = inr (number_in all a later)

module _ (functions : List Function) (all : List Assignment) (order : List Token) (outer : Frames) (overrides : ℕ → Option Text)
    (names : List Text) (has : ℕ → Bool) (exact : (n : ℕ) → IsTrue (has n) ↔ IsNeeded functions all outer overrides names n) where
  -- all assignments, and the needed ones
  abbrev whole : Assignments
  whole = record { all = all; order = order; referenced = λ n. true }

  abbrev narrow : Assignments
  narrow = record { all = all; order = order; referenced = has }

  abbrev numbers : List ℕ
  numbers = map (λ v. v.number) all

  -- what is needed and taken among all is taken among the needed
  abbrev AreKept : List ℕ → List ℕ → Type 0
  AreKept taken now = (n : ℕ) → IsIn taken n → IsTrue (has n) → IsIn now n

  numbered_on : (o : Option Assignment) (taken : List ℕ) → ((a : Assignment) → o ≡ Some a → IsIn all a) → ((n : ℕ) → IsIn taken n → IsIn numbers n)
      → (n : ℕ) → IsIn (with_taken whole o taken) n → IsIn numbers n
  numbered_on None taken there numbered n h = numbered n h
  numbered_on (Some a) taken there numbered n (inl same) = subst (IsIn numbers) same (number_in all a (there a refl))
  numbered_on (Some a) taken there numbered n (inr later) = numbered n later

  kept_by : (k : ℕ) (b : Bool) (taken now : List ℕ) → has k ≡ b → AreKept taken now → AreKept (k ∷ taken) (if b then k ∷ now else now)
  kept_by k true taken now is kept n (inl same) on = inl same
  kept_by k true taken now is kept n (inr later) on = inr (kept n later on)
  kept_by k false taken now is kept n (inl same) on = absurd (let bad : false ≡ true = sym is ∙ ap has same ∙ on in cc)
  kept_by k false taken now is kept n (inr later) on = kept n later on

  kept_on : (o : Option Assignment) (taken now : List ℕ) → AreKept taken now → AreKept (with_taken whole o taken) (with_taken narrow o now)
  kept_on None taken now kept = kept
  kept_on (Some a) taken now kept = kept_by a.number (has a.number) taken now refl kept

  -- what a needed assignment reads is taken earlier or bound outside
  readable : (taken now : List ℕ) (a : Assignment) (n : ℕ) (o : Option Value) → value_in outer n ≡ o → IsIn all a → IsTrue (has a.number)
      → overrides a.number ≡ None → Reads functions a.value n → ((k : ℕ) → IsIn taken k → IsIn numbers k) → AreKept taken now
      → IsIn taken n ⊎ HasValue (value_in outer) n → IsIn now n ⊎ HasValue (value_in outer) n
  readable taken now a n (Some v) is there needed none reads numbered kept h = inr (v, is)
  readable taken now a n None is there needed none reads numbered kept (inl before) =
      inl (kept n before ((exact n).1 (ReadBy a there none ((exact a.number).0 needed) reads (numbered n before, is))))
  readable taken now a n None is there needed none reads numbered kept (inr bound) = absurd (let bad : None ≡ Some bound.0 = sym is ∙ bound.1 in cc)

  in_order : (taken now : List ℕ) (left : List Token) → ((k : ℕ) → IsIn taken k → IsIn numbers k) → AreKept taken now
      → AreInOrder functions whole outer taken left → AreInOrder functions (with_overrides overrides narrow) outer now left
  in_order taken now [] numbered kept h = tt
  in_order taken now (t ∷ left) numbered kept h = (
    (λ b found needed n reads.
        let a = found_before overrides (assignment_at narrow t.lexeme) b (sym (found_after overrides all t.lexeme) ∙ found) in
        let here = read_before overrides functions (overrides a.0.number) a.0.value n
        (subst (λ (c : Assignment). Reads functions c.value n) (sym a.2) reads) in
        readable taken now a.0 n (value_in outer n) refl (found_in all t.lexeme a.0 a.1) (ap (λ (c : Assignment). has c.number) a.2 ∙ needed) here.0 here.1
        numbered kept (h.0 a.0 a.1 refl n here.1)),
    subst (λ taken. AreInOrder functions (with_overrides overrides narrow) outer taken left) (sym (taken_after overrides narrow t now))
        (in_order (with_taken whole (assignment_at whole t.lexeme) taken) (with_taken narrow (assignment_at narrow t.lexeme) now) left
        (numbered_on (assignment_at whole t.lexeme) taken (λ a found. found_in all t.lexeme a found) numbered)
        (kept_on (assignment_at whole t.lexeme) taken now kept) h.1),
  )

  pub stays : IsResolved functions whole outer → IsResolved functions (with_overrides overrides narrow) outer
  stays r = record {
    distinct = rw (same_numbers overrides all) r.distinct;
    unbound = r.unbound;
    values = known_values overrides functions all r.values;
    bodies = r.bodies;
    named = named_after overrides narrow order r.named;
    in_order = in_order [] [] order (λ k h. absurd h) (λ k h on. absurd h) r.in_order;
  }
