-- What an order takes, one name after another.
use Rattle.std.proofs.Common.{◌≡◌, ◌↔◌, ◌⊎◌, inl, inr, ⊎_elim, ℕ, Bool, true, false, List, [], ◌∷◌, Option, Some, None, MatchOption, refl, ap, sym, ◌∙◌, subst}
use Rattle.std.proofs.Common.{IsTrue}
use Rattle.just_faults.specs.Prelude.{Adds, Assignment, Assignments, FindsMisplaced, Frames, Function, HasValue, IsAdmitted, IsFaulty, IsIn, IsNumberOf}
use Rattle.just_faults.specs.Prelude.{IsPassed, IsSound, IsTakenOrBound, MayComeNext, ModuleFault, NameOf, ReadsReadable, Text, Token, assignment_at}
use Rattle.just_faults.specs.Prelude.{name_places, value_in, with_some, with_taken}
use Rattle.just_resolution.proofs.Ordering.{admitted_on, misplaced_alike, next_alike, none_admitted, same_members, taken_or_bound}
use Rattle.just_resolution.proofs.Sets.{no_member}
use Rattle.just_faults.proofs.Adding.{Continues, continues_on}

module _ (functions : List Function) (assignments : Assignments) where
  -- ---- one name

  abbrev Changes : (ℕ → Bool) → (ℕ → Bool) → Token → Type 0
  Changes taken next t = (n : ℕ) → IsTrue (next n) ↔ (IsTrue (taken n) ⊎ IsNumberOf assignments t n)

  -- it is no assignment's
  pub unknown_takes_none : (taken : ℕ → Bool) (t : Token) → assignment_at assignments t.lexeme ≡ None → Changes taken taken t
  unknown_takes_none taken t none n =
      ((λ h. inl h), (λ h. ⊎_elim (λ k. k) (λ k. absurd (let e : None ≡ Some k.0 = sym none ∙ k.1 in cc)) h))

  module _ (taken readable : ℕ → Bool) (passed admitted : Text → Bool) (by_now : IsPassed functions assignments taken readable passed admitted) where
    -- it passed before
    module _ (t : Token) (there : IsTrue (passed t.lexeme)) where
      pub comes_again : MayComeNext functions assignments (λ n. IsTrue (readable n)) t
      comes_again =
          let was = by_now.origin t.lexeme there in (
            (was.0, was.1),
            (λ b found_b referenced.
                let e : Some was.0 ≡ Some b = sym was.1 ∙ found_b in
                let same : was.0 ≡ b = cc in
                subst (ReadsReadable functions readable) same was.3),
          )

      pub comes_again_takes_none : Changes taken taken t
      comes_again_takes_none n =
          let was = by_now.origin t.lexeme there in (
            (λ h. inl h),
            (λ h. ⊎_elim (λ k. k)
                (λ k.
                let e : Some was.0 ≡ Some k.0 = sym was.1 ∙ k.1 in
                let same : was.0 ≡ k.0 = cc in
                subst (λ m. taken m ≡ true) (ap (λ (b : Assignment). b.number) same ∙ k.3) was.2) h),
          )

    module _ (a : Assignment) (next more : ℕ → Bool) (admits : Text → Bool) (closed : IsAdmitted functions readable admits)
        (adds : (n : ℕ) → IsTrue (next n) ↔ (IsTrue (taken n) ⊎ (a.number ≡ n))) (on : (n : ℕ) → IsTrue (readable n) → IsTrue (more n)) where
      -- its assignment is taken, whatever that reads
      pub takes_one : IsPassed functions assignments next more passed admits
      takes_one = record {
        closed = admitted_on functions assignments readable more admits on closed;
        origin = λ name k. let was = by_now.origin name k in (was.0, was.1, (adds was.0.number).1 (inl was.2), λ m r. on m (was.3 m r));
      }

      -- and it passes, since that reads only what is readable
      pub passes_one : (t : Token) (passes : Text → Bool) → assignment_at assignments t.lexeme ≡ Some a → ReadsReadable functions readable a
          → ((name : Text) → IsTrue (passes name) ↔ ((t.lexeme ≡ name) ⊎ IsTrue (passed name))) → IsPassed functions assignments next more passes admits
      passes_one t passes found reads names = record {
        closed = takes_one.closed;
        origin = λ name h. ⊎_elim
            (λ is. (a, subst (λ (s : Text). assignment_at assignments s ≡ Some a) is found, (adds a.number).1 (inr refl), λ m r. on m (reads m r)))
            (λ k. takes_one.origin name k)
            ((names name).0 h);
      }

  -- ---- the order, name by name

  -- A list of the numbers taken so far, with the same members as the set; and what the rest of the order adds is what all
  -- of it adds.
  pub record IsWalkedWithFaults (outer : Frames) (taken readable : ℕ → Bool) (passed admitted : Text → Bool) (left all : List Token)
      (old now : List ModuleFault) : Type 0 where
    pub by_now : IsPassed functions assignments taken readable passed admitted
    pub readable_if : (n : ℕ) → IsTrue (readable n) ↔ (IsTrue (taken n) ⊎ HasValue (value_in outer) n)
    pub numbers : List ℕ
    pub same : (n : ℕ) → IsIn numbers n ↔ IsTrue (taken n)
    pub continues : Continues (IsSound functions assignments outer) (IsFaulty functions assignments outer) (name_places assignments numbers left)
        (name_places assignments [] all) old now

  module _ (outer : Frames) where
    module _ (taken readable : ℕ → Bool) (passed admitted : Text → Bool) (t : Token) (start left all : List Token) (old now : List ModuleFault)
        (begins : start ≡ t ∷ left) (walked : IsWalkedWithFaults outer taken readable passed admitted start all old now) where
      w : IsWalkedWithFaults outer taken readable passed admitted (t ∷ left) all old now
      w = subst (λ l. IsWalkedWithFaults outer taken readable passed admitted l all old now) begins walked

      same_readable : (n : ℕ) → IsTrue (readable n) ↔ IsTakenOrBound outer w.numbers n
      same_readable = taken_or_bound functions assignments outer taken readable w.numbers w.readable_if w.same

      at_name : (r : Option ModuleFault) → FindsMisplaced functions assignments readable t r
          → MatchOption r (IsSound functions assignments outer (NameOf t w.numbers)) (IsFaulty functions assignments outer (NameOf t w.numbers))
      at_name None h = next_alike functions assignments outer (λ n. IsTrue (readable n)) (IsTakenOrBound outer w.numbers) t same_readable h
      at_name (Some f) h = misplaced_alike functions assignments outer (λ n. IsTrue (readable n)) (IsTakenOrBound outer w.numbers) t f same_readable h

      -- one more name, with or without a fault
      pub walks_on : (next more : ℕ → Bool) (passes admits : Text → Bool) (r : Option ModuleFault) (after : List ModuleFault)
          → IsPassed functions assignments next more passes admits → ((n : ℕ) → IsTrue (more n) ↔ (IsTrue (next n) ⊎ HasValue (value_in outer) n))
          → Changes taken next t → FindsMisplaced functions assignments readable t r → after ≡ with_some now r
          → IsWalkedWithFaults outer next more passes admits left all old after
      walks_on next more passes admits r after by_then more_if number found becomes = record {
        by_now = by_then;
        readable_if = more_if;
        numbers = with_taken assignments (assignment_at assignments t.lexeme) w.numbers;
        same = same_members functions assignments outer taken next w.numbers t w.same number;
        continues = continues_on (IsSound functions assignments outer) (IsFaulty functions assignments outer) (name_places assignments w.numbers (t ∷ left))
            (name_places assignments (with_taken assignments (assignment_at assignments t.lexeme) w.numbers) left) (name_places assignments [] all) old now
            w.continues (NameOf t w.numbers) r after refl (at_name r found) becomes;
      }

    -- all names were walked
    pub walked_all : (taken readable : ℕ → Bool) (passed admitted : Text → Bool) (start all : List Token) (old now : List ModuleFault) → start ≡ []
        → IsWalkedWithFaults outer taken readable passed admitted start all old now →
        Adds (IsSound functions assignments outer) (IsFaulty functions assignments outer) (name_places assignments [] all) old now
    walked_all taken readable passed admitted start all old now is w =
        let ended = subst (λ l. IsWalkedWithFaults outer taken readable passed admitted l all old now) is w in
        ended.continues now refl

    -- nothing is taken yet
    pub walks_from : (taken readable : ℕ → Bool) (passed admitted : Text → Bool) (all : List Token) (old : List ModuleFault) → ((n : ℕ) → taken n ≡ false)
        → ((name : Text) → passed name ≡ false) → ((name : Text) → admitted name ≡ false)
        → ((n : ℕ) → IsTrue (readable n) ↔ (IsTrue (taken n) ⊎ HasValue (value_in outer) n)) →
        IsWalkedWithFaults outer taken readable passed admitted all all old old
    walks_from taken readable passed admitted all old none nothing empty readable_if = record {
      by_now = record {
        closed = none_admitted functions readable admitted empty;
        origin = λ name h. absurd (let e : false ≡ true = sym (nothing name) ∙ h in cc);
      };
      readable_if = readable_if;
      numbers = [];
      same = no_member taken none;
      continues = λ new h. h;
    }
